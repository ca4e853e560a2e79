-- How long a word can be.
use Rattle.lemmas.proofs.Basics.{◌≤◌, arith, length}
use Rattle.keys.specs.declared.Form.{Form}
use Rattle.keys.specs.declared.Form.TheVariants.{Keyless, L1Only, L2Only, Both, Public}
use Rattle.words.specs.Words.{form_word}

pub length_form : (f : Form) → length (form_word f) ≤ 6
unfolding form_word
length_form Keyless = omega arith
length_form L1Only = omega arith
length_form L2Only = omega arith
length_form Both = omega arith
length_form Public = omega arith
