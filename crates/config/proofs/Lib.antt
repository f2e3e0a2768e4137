mod OurSteps
