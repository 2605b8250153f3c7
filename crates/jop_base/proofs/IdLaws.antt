-- The test for an id beside the fact.
use Rattle.std.proofs.Common.{◌≡◌, ℕ, List, length, true, nat_eq}
use Rattle.std.proofs.lemmas.Bool.{and_parts, eqb-true, eq-eqb}
use Rattle.std.proofs.lemmas.List.Sums.{AllPass-from_list_all, list_all-from_AllPass}
use Rattle.std.specs.List.{list_all}
use Rattle.jop_base.specs.Id.{IsIdText, is_digit, is_id}

pub IsIdText-from_is_id : (text : List ℕ) → is_id text ≡ true → IsIdText text
IsIdText-from_is_id text is =
    let parts = and_parts (nat_eq (length text) 32) (list_all is_digit text) is in
    record {
      long = eqb-true (length text) 32 parts.0;
      digits = AllPass-from_list_all is_digit text parts.1;
    }

pub is_id-from_IsIdText : (text : List ℕ) → IsIdText text → is_id text ≡ true
is_id-from_IsIdText text id =
    rw (eq-eqb (length text) 32 id.long) (list_all-from_AllPass is_digit text id.digits)
