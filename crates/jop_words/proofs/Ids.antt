-- Words that are ids.
use Rattle.std.proofs.Common.{◌≡◌, refl, ℕ, List, Bool, true, false, Some, None}
use Rattle.jop_base.proofs.IdLaws.{IsIdText-from_is_id, is_id-from_IsIdText}
use Rattle.jop_base.specs.Id.{IsIdText, is_id}
use Rattle.jop_words.specs.Words.{word_id}

pub id_of_id : (word : List ℕ) → IsIdText word → word_id word ≡ Some word
id_of_id word h = rw (is_id-from_IsIdText word h) refl

pub id_of_other : (word : List ℕ) → ¬ IsIdText word → word_id word ≡ None
id_of_other word none = by_test (is_id word) refl where
  by_test : (b : Bool) → is_id word ≡ b → word_id word ≡ None
  by_test true is = absurd (none (IsIdText-from_is_id word is))
  by_test false is = rw is refl
