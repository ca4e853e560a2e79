-- The codes of the C face: 0 is none, refused or the weakest; real cases count from 1. A code that is not listed is the weakest one.
use Rattle.std.specs.Prelude.{ℕ, Bool, cond, eqb}
use Rattle.keys.specs.declared.Form.{Form}
use Rattle.keys.specs.declared.Form.TheVariants.{Keyless, L1Only, L2Only, Both, Public}

-- the version of the C face, raised where an answer or a signature of it changes
abbrev pub face_version : ℕ
face_version = 5

unfoldable pub form_code : Form → ℕ
form_code Keyless = 0
form_code L1Only = 1
form_code L2Only = 2
form_code Both = 3
form_code Public = 4

-- not listed: keyless
abbrev pub form_from : ℕ → Form
form_from code = cond (eqb code 1) L1Only (cond (eqb code 2) L2Only (cond (eqb code 3) Both (cond (eqb code 4) Public Keyless)))

-- no is 0, yes is 1
abbrev pub bool_code : Bool → ℕ
bool_code b = cond b 1 0
