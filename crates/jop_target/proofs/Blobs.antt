-- Of a blob's file a tree has the number of its bytes.
use Rattle.std.proofs.Common.{◌≡◌, ◌∙◌, sym, ap, arith, ℕ, List, [], ◌∷◌, length, true, false}
use Rattle.std.proofs.lemmas.Bool.{false≢true}
use Rattle.jop_base.proofs.KeyedLaws.{same_text, at-put_other, at-cut_other, IsSorted-cut}
use Rattle.jop_base.specs.Id.{IsIdText, is_digit}
use Rattle.jop_base.specs.Keyed.{IsSorted}
use Rattle.jop_base.specs.Paths.{IsPath, path_text}
use Rattle.jop_base.specs.declared.path.Path.{Path}
use Rattle.jop_base.specs.declared.path.Path.TheVariants.{Item, Blob}
use Rattle.jop_target.specs.declared.tree.BlobBytes.{BlobBytes}
use Rattle.jop_target.specs.declared.tree.Content.{Content}
use Rattle.jop_target.specs.declared.tree.Content.TheVariants.{Sized}
use Rattle.jop_target.specs.Memory.{Fits}
use Rattle.jop_target.specs.Store.{is_same, blob_key, bytes_in, bytes_of, with_blob, without_blob}

-- ---- one blob more, one less: what other files hold fits as before

pub Fits-more : (bs : List BlobBytes) (id bytes : List ℕ) (p : Path) (content : Content) →
    is_same (Blob id) p ≡ false → Fits bs p content → Fits (with_blob bs id bytes) p content
Fits-more bs id bytes (Blob other) content apart fits =
    let stays = at-put_other blob_key bs (record { id = id; bytes = bytes }) other apart in
    fits ∙ ap (λ (b : _). Sized (length (bytes_in b))) (sym stays)
Fits-more bs id bytes p content apart fits = fits

pub Fits-less : (bs : List BlobBytes) (path p : Path) (content : Content) →
    is_same path p ≡ false → Fits bs p content → Fits (without_blob bs path) p content
Fits-less bs (Blob id) (Blob other) content apart fits =
    let stays = at-cut_other blob_key bs id other apart in
    fits ∙ ap (λ (b : _). Sized (length (bytes_in b))) (sym stays)
Fits-less bs path p content apart fits = fits

pub IsSorted-less : (bs : List BlobBytes) (path : Path) →
    IsSorted blob_key bs → IsSorted blob_key (without_blob bs path)
IsSorted-less bs (Blob id) sorted = IsSorted-cut blob_key bs id sorted
IsSorted-less bs path sorted = sorted

-- ---- two paths with one text are both a blob's, or neither is

blob_item : (i j : List ℕ) → IsIdText j → ¬ (path_text (Blob i) ≡ path_text (Item j))
blob_item i [] id same = absurd (omega (arith, id.long))
blob_item i (d ∷ ds) id same =
    let point : 46 ≡ d = cc in
    let digit : is_digit d ≡ true = id.digits 0 d (omega arith) in
    false≢true (rw (← point) at digit)

pub Fits-same : (bs : List BlobBytes) (p q : Path) (content : Content) →
    IsPath p → IsPath q → is_same p q ≡ true → Fits bs p content → Fits bs q content
Fits-same bs (Blob i) (Blob j) content h k same fits =
    fits ∙ ap (λ (id : List ℕ). Sized (length (bytes_of bs id))) (same_text i j same)
Fits-same bs (Blob i) (Item j) content h k same fits =
    absurd (blob_item i j k (same_text (path_text (Blob i)) (path_text (Item j)) same))
Fits-same bs (Item i) (Blob j) content h k same fits =
    absurd (blob_item j i h (sym (same_text (path_text (Item i)) (path_text (Blob j)) same)))
Fits-same bs (Blob i) q content h k same fits = cc
Fits-same bs p (Blob j) content h k same fits = cc
Fits-same bs p q content h k same fits = fits
