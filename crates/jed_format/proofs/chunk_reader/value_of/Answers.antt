use Rattle.std.proofs.Common.{◌≡◌, ℕ, List, true, None, inl, inr, sym}
use Rattle.std.proofs.lemmas.Bool.{cases_Bool, iff_false}
use Rattle.std.proofs.lemmas.Str.{is_utf8-from_IsUtf8, IsUtf8-from_is_utf8}
use Rattle.std.specs.Str.{IsUtf8, is_utf8}
use Rattle.serde_json.specs.Read.{read}
use Rattle.jed_format.specs.Chunk.{json_value}
use Rattle.jed_format.proofs.chunk_reader.value_of.Goals as goal

no_value : (text : List ℕ) → (IsUtf8 text → read text ≡ None) → None ≡ json_value text
no_value text refused = elim (cases_Bool (is_utf8 text)) [
  | inl holds ↦ rw holds (sym (refused (IsUtf8-from_is_utf8 text holds)))
  | inr fails ↦ rw fails
]

pub returns-in-Ok : goal.returns-in-Ok
returns-in-Ok c =
    let test : is_utf8 c.args.text.now ≡ true = is_utf8-from_IsUtf8 c.args.text.now c.in-Ok.ensures.ok.0 in
    rw test (sym c.in-Ok.ensures.ok.1)

pub returns-in-Err-2 : goal.returns-in-Err-2
returns-in-Err-2 c =
    no_value c.args.text.now (c.in-Err.ensures.err (iff_false c.is_memory.ensures c.if-is_memory.false))
