mod KeptSteps
