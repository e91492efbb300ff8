mod Ascents
