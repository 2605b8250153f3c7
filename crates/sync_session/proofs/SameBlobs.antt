-- What was kept of resources is kept by a part that gets none.
use Rattle.std.specs.Prelude.{◌≡◌, List, [], Bool, Option, Some, None, option_map, refl}
use Rattle.std.proofs.Common.{◌∙◌, ap}
use Rattle.jop_target.specs.declared.call.Call.{Call}
use Rattle.keeper.specs.Keepers.{Kept}
use Rattle.keeper.specs.declared.blob.Blob.{Blob}
use Rattle.law_licences.specs.Deeds.{changes_in}
use Rattle.local_store.specs.declared.change.Change.{Change}
use Rattle.session.proofs.Saves.{GetsNone, saves_none}
use Rattle.session.specs.Doing.{Does}
use Rattle.session.specs.Parts.{Part}
use Rattle.session.specs.Saving.{kept_after_saves, saved_all}
use Rattle.session.specs.Work.{WorkNow}
use Rattle.upload.specs.Uploading.{blobs_of}

blobs_changed : (kept : Option Kept) (changes : List Change)
    → blobs_of (option_map (kept_after_saves changes []) kept) ≡ blobs_of kept
unfolding saved_all
blobs_changed None changes = refl
blobs_changed (Some k) changes = refl

pub same_blobs : (P : Part) (sort : Call → Bool) (a b : WorkNow) → GetsNone sort
    → Does P sort a b → blobs_of b.site.keeper.kept ≡ blobs_of a.site.keeper.kept
same_blobs P sort a b nothing h =
    let changes = changes_in h.went.deeds in
    let none = saves_none sort a b h.went nothing in
    ap blobs_of h.went.kept
    ∙ (ap (λ (bs : List Blob). blobs_of (option_map (kept_after_saves changes bs) a.site.keeper.kept))
    none
    ∙ blobs_changed a.site.keeper.kept changes)
