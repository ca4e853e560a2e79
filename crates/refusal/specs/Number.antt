-- Document 01, "Refusal numbers", with the rows that document 02 adds: the number of each refusal; accepted is 0.
use Rattle.std.specs.Prelude.{ℕ, Ok, Err}
use Rattle.refusal.specs.declared.Refusal.{Refusal}
use Rattle.refusal.specs.declared.Refusal.TheVariants.{TooLong, Short, LengthsDisagree, WrongMark, IndexAbove31, Misplaced, EmptyItem, Overlap, UnusedRun, MalformedText, KeyLength, MalformedSid, NoRoom, IndexOutOfRange, MixedIndices, VerdictNo, LaterThanNow, RightsTooLow, NoRootKey, TableLength, StartPastTime, BytesLeft, NeitherServes, UnpairedSurrogate, WrongShifts, MalformedRecord}
use Rattle.refusal.specs.Outcome.{Outcome}

unfoldable pub number_of : Refusal → ℕ
number_of TooLong = 1
number_of Short = 2
number_of LengthsDisagree = 3
number_of WrongMark = 4
number_of IndexAbove31 = 5
number_of Misplaced = 6
number_of EmptyItem = 7
number_of Overlap = 8
number_of UnusedRun = 9
number_of MalformedText = 10
number_of KeyLength = 11
number_of MalformedSid = 12
number_of NoRoom = 13
number_of IndexOutOfRange = 14
number_of MixedIndices = 15
number_of VerdictNo = 16
number_of LaterThanNow = 17
number_of RightsTooLow = 18
number_of NoRootKey = 19
number_of TableLength = 20
number_of StartPastTime = 21
number_of BytesLeft = 22
number_of NeitherServes = 23
number_of UnpairedSurrogate = 24
number_of WrongShifts = 25
number_of MalformedRecord = 26

unfoldable pub outcome_number : Outcome → ℕ
outcome_number (Ok tt) = 0
outcome_number (Err r) = number_of r
