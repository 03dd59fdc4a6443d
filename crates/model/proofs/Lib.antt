-- Booleans, numbers, lists and results
pub mod Basics
-- conjuncts and sets of them: their order, their atoms and numbering, their values
pub mod Conjuncts
-- the walk: what it keeps and leaves alone, walks of unions and parts, positions in a program, from a site to the start
pub mod Walks
-- the run: positions, steps, marks and the log; and that the analysis is sound
pub mod Runs
-- procedures: the parts of a program, its blocks, the types and variables of the inlined program
pub mod Procedures
-- what is read and written: programs, parts of files, the condition file, scratch
pub mod Files
-- the filter: combinations, choices, the first failure and its cause, blank fields
pub mod Filters
-- the operations on byte strings, and document 01's examples
pub mod RefusalNumbers
pub mod Demand1
pub mod Demand3
pub mod Guarding
pub mod Conversions
pub mod WorkedExamples
