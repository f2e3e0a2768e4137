-- the invariant, and the moves that keep it
pub mod Invariant
pub mod MoveOpen
pub mod MoveCommit
pub mod MoveWait
pub mod MoveVote
pub mod MoveNote
pub mod MoveFinish
pub mod MoveRelease
pub mod MoveTake
pub mod MoveShow
pub mod MoveTell
-- lists of rows that have grown, and their values
pub mod Grown
pub mod Merged
pub mod LastWriter
pub mod Effects
-- the account of the books, and the moves that keep it
pub mod Cases
pub mod Account
pub mod AccountOpen
pub mod AccountCommit
pub mod AccountTake
pub mod AccountShow
pub mod AccountQuiet
-- runs, and the laws
pub mod Fresh
pub mod Runs
pub mod Members
pub mod Shelves
pub mod ShelfValues
pub mod ReadLaw
pub mod NoLostUpdate
pub mod Causality
pub mod Agreement
pub mod MachineIsolation
-- for those who show that boards move as the machine does
pub mod Elsewhere
pub mod Written
pub mod Writers
pub mod Logs
-- how boards and the machine go together
pub mod Carried
pub mod Simulation
pub mod Placing
pub mod Boards
pub mod Clearing
pub mod Polls
pub mod Built
-- each call is a step of the machine
pub mod Opening
pub mod Sending
pub mod Committing
pub mod Resending
pub mod Receiving
pub mod Releasing
pub mod Reaching
pub mod Taking
pub mod Acknowledging
pub mod Showing
pub mod Preparing
pub mod Voting
pub mod Delivering
-- runs of boards, and their law
pub mod Simulated
pub mod BoardsIsolation
