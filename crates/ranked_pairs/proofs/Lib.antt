mod FirstMet
