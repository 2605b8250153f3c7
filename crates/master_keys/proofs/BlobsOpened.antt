-- A blob that was sealed is opened again.
use Rattle.std.proofs.Common.{◌≡◌, ℕ, List, Some, Result, Ok, sym, ap, ◌∙◌}
use Rattle.jed_format.specs.declared.jed.Jed.{Jed}
use Rattle.jed_format.specs.declared.jed_err.JedErr.{JedErr}
use Rattle.master_keys.specs.Refusing.{by_jed, then_with}
use Rattle.master_keys.specs.Rings.{HasActive, RingNow, digits_of}
use Rattle.master_keys.specs.SealedBlobs.{BlobOpensUnder, blob_with, open_blob_by}
use Rattle.master_keys.specs.declared.key_err.KeyErr.{KeyErr}

abbrev with_jed : RingNow → Jed → Result (List ℕ) KeyErr
with_jed ring jed = blob_with jed (digits_of ring jed.key)

pub blob_opens_again : (ring other : RingNow) (key digits blob text own : List ℕ) → HasActive ring key digits
    → BlobOpensUnder key digits blob text → ring.active ≡ Some own → digits_of other own ≡ digits_of ring own
    → open_blob_by other text ≡ Ok blob
blob_opens_again ring other key digits blob text own has opens active same =
    let known : Some own ≡ Some key = sym active ∙ has.active in
    let own_is : own ≡ key = cc in
    let found : digits_of other opens.jed.key ≡ Some digits =
    ap (digits_of other) (opens.names ∙ sym own_is) ∙ same ∙ ap (digits_of ring) own_is ∙ has.opened in
    ap (λ (r : Result Jed JedErr). then_with (with_jed other) (by_jed r)) opens.reads
    ∙ ap (blob_with opens.jed) found ∙ ap by_jed opens.opens
