-- Refusals: the number of each denial, and the layer that reports it.
use Rattle.std.specs.Prelude.{ℕ}
use Rattle.record.specs.declared.fault.Denial.{Denial}
use Rattle.record.specs.declared.fault.Denial.TheVariants.{Build, ShortBuffer, BadRecord, NoTransaction, WrongState, Unlisted, KindDiffers, FourUpdates, NoPlace, SerialsSpent, LogFull, NoLockPlaces, Early, NotHere}
use Rattle.record.specs.declared.fault.Fault.{Fault}
use Rattle.record.specs.declared.fault.Fault.TheVariants.{Board, Record as Broken, Keeper}

abbrev pub number_of : Denial → ℕ
number_of Build = 1
number_of ShortBuffer = 2
number_of BadRecord = 3
number_of NoTransaction = 4
number_of WrongState = 5
number_of Unlisted = 6
number_of KindDiffers = 7
number_of FourUpdates = 8
number_of NoPlace = 9
number_of SerialsSpent = 10
number_of LogFull = 11
number_of NoLockPlaces = 12
number_of Early = 13
number_of NotHere = 14

-- ## The three faults

-- the board refuses
abbrev pub board_fault : Denial → Fault
board_fault why = Board why

-- a record breaks a rule at this byte; 64 is a wrong length
abbrev pub misplaced : ℕ → Fault
misplaced place = Broken place

-- the keeper of the log refuses
abbrev pub keeper_fault : Denial → Fault
keeper_fault why = Keeper why

-- ## What a panel shows of them

abbrev pub layer_of : Fault → ℕ
layer_of (Board why) = 2
layer_of (Broken place) = 3
layer_of (Keeper why) = 4

abbrev pub number_in : Fault → ℕ
number_in (Board why) = number_of why
number_in (Broken place) = number_of BadRecord
number_in (Keeper why) = number_of why

-- 0 but where a record breaks a rule
abbrev pub place_in : Fault → ℕ
place_in (Board why) = 0
place_in (Broken place) = place
place_in (Keeper why) = 0
