mod LineSteps
mod NoFile
mod SameRefusal
