use Rattle.std.specs.Prelude.{ℕ, List, ◌++◌, codes, decimal}
use Rattle.refusal.specs.declared.Cause.{Cause}
use Rattle.refusal.specs.declared.Cause.TheVariants as cause
use Rattle.refusal.specs.declared.Refusal.{Refusal}

-- the number of each cause
abbrev pub number : Cause → ℕ
number cause.UnknownStatement = 1
number cause.Malformed = 2
number cause.OutOfRange = 3
number cause.DuplicateName = 4
number cause.UnknownName = 5
number cause.OutsideVariable = 6
number cause.NotGathered = 7
number cause.TextTooLong = 8
number cause.LabelSlotsFull = 9
number cause.TooManyWords = 10
number cause.TapeTooShort = 11
number cause.MalformedTapeWord = 12
number cause.MisplacedTapeEnd = 13
number cause.WrongTapeSum = 14
number cause.PlacePastEnd = 15
number cause.Absent = 16
number cause.Closed = 17
number cause.Unassigned = 18
number cause.RunTooLong = 19
number cause.BackTooFar = 20
number cause.NoSuchRegister = 21
number cause.CountTooHigh = 22

-- a refusal with its place
abbrev pub refused : Cause → ℕ → Refusal
refused c p = record { cause = c; place = p }

-- what is printed of a refusal: the cause's number and the place
abbrev pub refusal_text : Refusal → List ℕ
refusal_text r = codes "refused " ++ decimal (number r.cause) ++ codes " " ++ decimal r.place
