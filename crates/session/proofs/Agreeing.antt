-- The target's bytes of resources stay those that are kept.
use Rattle.std.specs.Prelude.{ℕ, ◌≡◌, List, [], ◌∷◌, Bool, true, false, bytes_eq, ◌||◌, if◌then◌else◌, All, option_map, Option, Some, None, Ok, refl}
use Rattle.std.proofs.Common.{sym, ap, subst, ◌∙◌, inl, inr}
use Rattle.std.proofs.lemmas.List.Elements.{All-head, All-tail}
use Rattle.client.specs.Sites.{SiteNow, IsSameSite}
use Rattle.jop_base.proofs.KeyedLaws.{at-cut_other, at-put, at-put_other, at-put_same, bytes_eq-refl, same_text}
use Rattle.jop_base.specs.Keyed.{at}
use Rattle.jop_outside.specs.Plan.{next_fate}
use Rattle.jop_base.specs.declared.dir.Dir.TheVariants.{Locks}
use Rattle.jop_base.specs.declared.path.Path.{Path}
use Rattle.jop_base.specs.declared.path.Path.TheVariants.{Blob}
use Rattle.jop_target.specs.Replies.{Answers, IsBlobOf, TargetNow, contents_in}
use Rattle.jop_target.specs.Runs.{Continues, LeadsTo, TellsRun}
use Rattle.jop_target.specs.Store.{Contents, Store, blob_key, blobs_after, bytes_in, bytes_of, contents_after, fated, lands, reply_of, store_after, store_reply, with_blob}
use Rattle.jop_target.specs.Trail.{LineNow}
use Rattle.jop_target.specs.Trail as trails
use Rattle.jop_target.specs.declared.call.Call.{Call}
use Rattle.jop_target.specs.declared.call.Call.TheVariants.{List as ListDir, Get, Put, Delete, MakeDir, GetBlob, PutBlob}
use Rattle.jop_target.specs.declared.event.Event.{Event}
use Rattle.jop_target.specs.declared.event.Event.TheVariants.{Began, Called, Ended, Made, Sent}
use Rattle.jop_target.specs.declared.reply.Reply.{Reply}
use Rattle.jop_target.specs.declared.reply.Reply.TheVariants.{GotBlob, Done, Failed}
use Rattle.jop_target.specs.declared.tree.BlobBytes.{BlobBytes}
use Rattle.lease.specs.Calls.{IsLeaseCall, IsLeaseEvent}
use Rattle.law_licences.specs.Trails.{session_calls}
use Rattle.law_licences.specs.Views.{Heard, is_about_locks, with_call}
use Rattle.keeper.specs.Keepers.{KeeperNow, Kept, blob_at, blob_id, changed, with_saved_blob}
use Rattle.keeper.specs.declared.blob.Blob.{Blob as Saved}
use Rattle.local_store.specs.declared.change.Change.{Change}
use Rattle.session.specs.Agreeing.{AgreeBut, IsKeptFor, is_on_bytes, is_owed, moved, moves}
use Rattle.session.specs.Saving.{got_by}

-- ---- calls that leave all bytes of resources

-- a call neither puts nor deletes bytes of a resource
abbrev spares_bytes : Call → Bool
spares_bytes (PutBlob id len) = false
spares_bytes (Delete (Blob id)) = false
spares_bytes call = true

spared : (blobs : List BlobBytes) (call : Call) (bytes : List ℕ) → spares_bytes call ≡ true
    → blobs_after blobs call bytes ≡ blobs
spared blobs (PutBlob id len) bytes spares = absurd cc
spared blobs (Delete (Blob id)) bytes spares = absurd cc
spared blobs call bytes spares = refl

landed_spared : (landed : Bool) (c : Contents) (now : ℕ) (call : Call) (bytes : List ℕ)
    → spares_bytes call ≡ true
    → (if landed then contents_after c now call bytes else c).blobs ≡ c.blobs
landed_spared true c now call bytes spares = spared c.blobs call bytes spares
landed_spared false c now call bytes spares = refl

store_spared : (s : Store) (call : Call) (bytes : List ℕ) → spares_bytes call ≡ true
    → (store_after s call bytes).contents.blobs ≡ s.contents.blobs
store_spared s call bytes spares =
    landed_spared (lands (next_fate s.plan)) s.contents s.moment call bytes spares

-- a lease's calls are of these
lease_spares : (client : List ℕ) (call : Call) → IsLeaseCall client call
    → spares_bytes call ≡ true
lease_spares client (MakeDir Locks) own = refl
lease_spares client (ListDir Locks) own = refl
lease_spares client (Put path content) own = refl
lease_spares client (Delete path) own =
    subst (λ (p : Path). spares_bytes (Delete p) ≡ true) (sym own.1) refl
lease_spares client call own = absurd own

lease_leads : (client : List ℕ) (s : Store) (es : List Event) (t : Store)
    → All (IsLeaseEvent client) es → LeadsTo s es t → t.contents.blobs ≡ s.contents.blobs
unfolding LeadsTo
lease_leads client s [] t each h = ap (λ (x : Store). x.contents.blobs) h
lease_leads client s (Called call reply ∷ es) t each h =
    let own = All-head (IsLeaseEvent client) (Called call reply) es each in
    lease_leads client (store_after s call h.0) es t
    (All-tail (IsLeaseEvent client) (Called call reply) es each) h.3
    ∙ store_spared s call h.0 (lease_spares client call own)
lease_leads client s (Sent call ∷ es) t each h =
    let own = All-head (IsLeaseEvent client) (Sent call) es each in
    let rest = All-tail (IsLeaseEvent client) (Sent call) es each in
    elim h [
      | inl landed ↦
          lease_leads client (store_after s call landed.0) es t rest landed.2
          ∙ store_spared s call landed.0 (lease_spares client call own)
      | inr unasked ↦ lease_leads client s es t rest unasked
    ]
lease_leads client s (Began ∷ es) t each h =
    absurd (All-head (IsLeaseEvent client) Began es each)
lease_leads client s (Made number ∷ es) t each h =
    absurd (All-head (IsLeaseEvent client) (Made number) es each)
lease_leads client s (Ended ∷ es) t each h =
    absurd (All-head (IsLeaseEvent client) Ended es each)

-- ---- a call that was answered

-- a call that was answered otherwise than by `Failed` has landed
has_landed : (fate : Option Bool) (told reply : Reply) → reply ≡ fated fate told
    → ¬ (reply ≡ Failed) → lands fate ≡ true
has_landed None told reply is heard = refl
has_landed (Some landed) told reply is heard = absurd (heard is)

if_landed : (landed : Bool) (c : Contents) (now : ℕ) (call : Call) (bytes : List ℕ)
    → landed ≡ true
    → (if landed then contents_after c now call bytes else c).blobs
    ≡ blobs_after c.blobs call bytes
if_landed true c now call bytes is = refl
if_landed false c now call bytes is = absurd cc

blobs_answered : (s : Store) (call : Call) (bytes : List ℕ) (reply : Reply)
    → reply ≡ store_reply s call → ¬ (reply ≡ Failed)
    → (store_after s call bytes).contents.blobs ≡ blobs_after s.contents.blobs call bytes
blobs_answered s call bytes reply is heard =
    if_landed (lands (next_fate s.plan)) s.contents s.moment call bytes
    (has_landed (next_fate s.plan) (reply_of s.contents.tree s.moment call) reply is heard)

-- bytes that were put are there
put_there : (blobs : List BlobBytes) (id bytes : List ℕ)
    → bytes_of (with_blob blobs id bytes) id ≡ bytes
put_there blobs id bytes =
    ap bytes_in (at-put blob_key blobs (record { id = id; bytes = bytes }) id
    ∙ ap (λ (b : Bool). if b then Some (record { id = id; bytes = bytes }) else at blob_key blobs id)
    (bytes_eq-refl id))

-- the call leaves the bytes of every other resource
others_stay : (blobs : List BlobBytes) (call : Call) (bytes id : List ℕ)
    → is_on_bytes id call ≡ false
    → bytes_of (blobs_after blobs call bytes) id ≡ bytes_of blobs id
others_stay blobs (PutBlob other len) bytes id off =
    ap bytes_in (at-put_other blob_key blobs (record { id = other; bytes = bytes }) id off)
others_stay blobs (Delete (Blob other)) bytes id off =
    ap bytes_in (at-cut_other blob_key blobs other id off)
others_stay blobs call bytes id off = refl

either_false : (a : Bool) → a ≡ true → (a || false) ≡ false → ⊥
either_false true is none = absurd cc
either_false false is none = absurd cc

-- a call on the bytes that has moved them, and owes none, has put those that are kept
moved_here : (k : Kept) (blobs : List BlobBytes) (call : Call) (reply : Reply) (bytes id : List ℕ)
    → IsKeptFor (Some k) call bytes → is_on_bytes id call ≡ true
    → is_owed id (got_by call reply) ≡ false → moves call (Some reply) ≡ true
    → blob_at k id ≡ Some (bytes_of (blobs_after blobs call bytes) id)
unfolding is_owed
moved_here k blobs (PutBlob other len) (Done now) bytes id kept on none moves =
    subst (λ (x : List ℕ). blob_at k x ≡ Some (bytes_of (with_blob blobs other bytes) x))
    (same_text other id on)
    (sym kept ∙ ap (λ (x : List ℕ). Some x) (sym (put_there blobs other bytes)))
moved_here k blobs (GetBlob other) (GotBlob now len) bytes id kept on none moves =
    absurd (either_false (bytes_eq other id) on none)
moved_here k blobs call reply bytes id kept on none moves = absurd cc

moved_if : (on : Bool) (k : Kept) (blobs : List BlobBytes) (call : Call) (reply : Reply)
    (bytes id : List ℕ) (calls : List Heard) → is_on_bytes id call ≡ on
    → IsKeptFor (Some k) call bytes → is_owed id (got_by call reply) ≡ false
    → (moved id calls ≡ true → blob_at k id ≡ Some (bytes_of blobs id))
    → (if on then moves call (Some reply) else moved id calls) ≡ true
    → blob_at k id ≡ Some (bytes_of (blobs_after blobs call bytes) id)
moved_if true k blobs call reply bytes id calls is kept none before h =
    moved_here k blobs call reply bytes id kept is none h
moved_if false k blobs call reply bytes id calls is kept none before h =
    before h ∙ ap (λ (x : List ℕ). Some x) (sym (others_stay blobs call bytes id is))

-- ---- a call under a lease

-- a store that is told behind a lease's calls and this one, and what it held before
record ComesFrom (before : Option Store) (call : Call) (bytes : List ℕ) (s : Store) : Type 0 where
  was : Store
  told : before ≡ Some was
  blobs : s.contents.blobs ≡ blobs_after was.contents.blobs call bytes

comes_from : (client : List ℕ) (o m n : Option Store) (more : List Event) (call : Call)
    (bytes : List ℕ) (reply : Reply) (s : Store) → All (IsLeaseEvent client) more
    → TellsRun o more m → Answers m call bytes (Ok reply) n → ¬ (reply ≡ Failed) → n ≡ Some s
    → ComesFrom o call bytes s
comes_from client None m n more call bytes reply s each run answers heard told =
    let silent : n ≡ None =
    subst (λ (x : Option Store). Answers x call bytes (Ok reply) n) run answers in
    absurd cc
comes_from client (Some was) m n more call bytes reply s each run answers heard told =
    let mid = run.0 in
    let now = subst (λ (x : Option Store). Answers x call bytes (Ok reply) n) run.1 answers in
    let is : store_after mid call bytes ≡ s = cc (now.1, told) in
    record {
      was = was;
      told = refl;
      blobs =
          ap (λ (x : Store). x.contents.blobs) (sym is)
          ∙ (blobs_answered mid call bytes reply now.0 heard
          ∙ ap (λ (x : List BlobBytes). blobs_after x call bytes)
          (lease_leads client was more mid each run.2));
    }

moved_last : (about : Bool) (call : Call) (reply : Reply) (id : List ℕ) (calls : List Heard)
    → about ≡ false
    → moved id (if about then calls else record { call = call; reply = Some reply } ∷ calls) ≡ true
    → (if is_on_bytes id call then moves call (Some reply) else moved id calls) ≡ true
unfolding moved
moved_last true call reply id calls about h = absurd cc
moved_last false call reply id calls about h = h

pub agrees_asked : (client : List ℕ) (old new : SiteNow) (mid : LineNow) (call : Call)
    (blob bytes : List ℕ) (reply : Reply) → IsSameSite old new
    → Continues (IsLeaseEvent client) old.line mid
    → trails.IsAnswered mid call blob new.line bytes reply → ¬ (reply ≡ Failed)
    → session_calls new.line.trail ≡ with_call call (Some reply) (session_calls old.line.trail)
    → is_about_locks call ≡ false → IsKeptFor old.keeper.kept call blob → AgreeBut [] old
    → AgreeBut (got_by call reply) new
unfolding is_owed
agrees_asked client old new mid call blob bytes reply same goes answered heard calls about kept
    agree = λ id none s k told_store told_kept has_moved.
    let from = comes_from client old.line.target.store mid.target.store new.line.target.store
    goes.more call blob reply s goes.each goes.store answered.answers heard told_store in
    let told : old.keeper.kept ≡ Some k =
    ap (λ (x : KeeperNow). x.kept) (sym same.keeper) ∙ told_kept in
    let here = moved_last (is_about_locks call) call reply id (session_calls old.line.trail) about
    (ap (moved id) (sym calls) ∙ has_moved) in
    moved_if (is_on_bytes id call) k from.was.contents.blobs call reply blob id
    (session_calls old.line.trail) refl
    (subst (λ (x : Option Kept). IsKeptFor x call blob) told kept) none
    (λ was. agree id refl from.was k from.told told was) here
    ∙ ap (λ (x : List BlobBytes). Some (bytes_of x id)) (sym from.blobs)

-- bytes that were got are still those of the target
pub blob_stays : (m n : Option Store) (call : Call) (blob bytes : List ℕ) (reply : Reply)
    → Answers m call blob (Ok reply) n → IsBlobOf (contents_in m) call bytes
    → IsBlobOf (contents_in n) call bytes
blob_stays None n call blob bytes reply answers is =
    subst (λ (x : Option Store). IsBlobOf (contents_in x) call bytes) (sym answers) tt
blob_stays (Some m) n (GetBlob id) blob bytes reply answers is =
    subst (λ (x : Option Store). IsBlobOf (contents_in x) (GetBlob id) bytes) (sym answers.1)
    (is ∙ ap (λ (x : List BlobBytes). bytes_of x id) (sym (store_spared m (GetBlob id) blob refl)))
blob_stays (Some m) n (ListDir dir) blob bytes reply answers is =
    subst (λ (x : Option Store). IsBlobOf (contents_in x) (ListDir dir) bytes) (sym answers.1) tt
blob_stays (Some m) n (Get path) blob bytes reply answers is =
    subst (λ (x : Option Store). IsBlobOf (contents_in x) (Get path) bytes) (sym answers.1) tt
blob_stays (Some m) n (Put path content) blob bytes reply answers is =
    subst (λ (x : Option Store). IsBlobOf (contents_in x) (Put path content) bytes) (sym answers.1) tt
blob_stays (Some m) n (Delete path) blob bytes reply answers is =
    subst (λ (x : Option Store). IsBlobOf (contents_in x) (Delete path) bytes) (sym answers.1) tt
blob_stays (Some m) n (MakeDir dir) blob bytes reply answers is =
    subst (λ (x : Option Store). IsBlobOf (contents_in x) (MakeDir dir) bytes) (sym answers.1) tt
blob_stays (Some m) n (PutBlob id len) blob bytes reply answers is =
    subst (λ (x : Option Store). IsBlobOf (contents_in x) (PutBlob id len) bytes) (sym answers.1) tt

-- ---- a change, and bytes that are saved

blob_changed : (old : Option Kept) (change : Change) (k : Kept) (id : List ℕ)
    → option_map (changed change) old ≡ Some k
    → (was : Kept) × (old ≡ Some was) × (blob_at k id ≡ blob_at was id)
blob_changed None change k id told = absurd cc
blob_changed (Some was) change k id told =
    let is : changed change was ≡ k = cc (told) in
    (was, refl, ap (λ (x : Kept). blob_at x id) (sym is))

pub agrees_made : (old new : SiteNow) (change : Change)
    → new.keeper.kept ≡ option_map (changed change) old.keeper.kept
    → new.line.target ≡ old.line.target
    → session_calls new.line.trail ≡ session_calls old.line.trail → AgreeBut [] old
    → AgreeBut [] new
agrees_made old new change kept target same agree = λ id none s k told_store told_kept was.
    let before = blob_changed old.keeper.kept change k id (sym kept ∙ told_kept) in
    before.2
    ∙ agree id none s before.0 (ap (λ (t : TargetNow). t.store) (sym target) ∙ told_store)
    before.1 (ap (moved id) (sym same) ∙ was)

blob_saved : (old : Option Kept) (id bytes : List ℕ) (k : Kept)
    → option_map (with_saved_blob id bytes) old ≡ Some k
    → (was : Kept) × (old ≡ Some was) × (k ≡ with_saved_blob id bytes was)
blob_saved None id bytes k told = absurd cc
blob_saved (Some was) id bytes k told = (was, refl, cc (told))

saved_here : (was : Kept) (id bytes : List ℕ)
    → blob_at (with_saved_blob id bytes was) id ≡ Some bytes
saved_here was id bytes =
    ap (option_map (λ (b : Saved). b.bytes))
    (at-put_same blob_id was.blobs (record { id = id; bytes = bytes }))

saved_elsewhere : (was : Kept) (id bytes other : List ℕ) → bytes_eq id other ≡ false
    → blob_at (with_saved_blob id bytes was) other ≡ blob_at was other
saved_elsewhere was id bytes other differ =
    ap (option_map (λ (b : Saved). b.bytes))
    (at-put_other blob_id was.blobs (record { id = id; bytes = bytes }) other differ)

saved_if : (same : Bool) (was : Kept) (id bytes other stored : List ℕ)
    → bytes_eq id other ≡ same → (id ≡ other → bytes ≡ stored)
    → (bytes_eq id other ≡ false → blob_at was other ≡ Some stored)
    → blob_at (with_saved_blob id bytes was) other ≡ Some stored
saved_if true was id bytes other stored is here there =
    let same = same_text id other is in
    subst (λ (x : List ℕ). blob_at (with_saved_blob id bytes was) x ≡ Some stored) same
    (saved_here was id bytes ∙ ap (λ (x : List ℕ). Some x) (here same))
saved_if false was id bytes other stored is here there =
    saved_elsewhere was id bytes other is ∙ there is

not_owed : (a : Bool) → a ≡ false → (a || false) ≡ false
not_owed true is = is
not_owed false is = refl

-- these bytes are kept, if the keeper tells, and all else is as it was
pub record IsSaved (id bytes : List ℕ) (old new : SiteNow) : Type 0 where
  pub kept : new.keeper.kept ≡ option_map (with_saved_blob id bytes) old.keeper.kept
  pub well : new.keeper.faults ≡ old.keeper.faults
  pub line : new.line ≡ old.line
  pub tables : new.tables ≡ old.tables
  pub made : new.made ≡ old.made

pub agrees_saved : (mid new : SiteNow) (id bytes : List ℕ) (len : ℕ) → IsSaved id bytes mid new
    → IsBlobOf (contents_in mid.line.target.store) (GetBlob id) bytes
    → AgreeBut ((id, len) ∷ []) mid → AgreeBut [] new
unfolding is_owed
agrees_saved mid new id bytes len h stored agree = λ other none s k told_store told_kept was.
    let before = blob_saved mid.keeper.kept id bytes k (sym h.kept ∙ told_kept) in
    let told : mid.line.target.store ≡ Some s =
    ap (λ (l : LineNow). l.target.store) (sym h.line) ∙ told_store in
    let was_moved = ap (λ (l : LineNow). moved other (session_calls l.trail)) (sym h.line) ∙ was in
    subst (λ (x : Kept). blob_at x other ≡ Some (bytes_of s.contents.blobs other)) (sym before.2)
    (saved_if (bytes_eq id other) before.0 id bytes other (bytes_of s.contents.blobs other) refl
    (λ same. subst (λ (x : List ℕ). bytes ≡ bytes_of s.contents.blobs x) same
    (subst (λ (x : Option Store). IsBlobOf (contents_in x) (GetBlob id) bytes) told stored))
    (λ differ. agree other (not_owed (bytes_eq id other) differ) s before.0 told before.1 was_moved))

-- ---- a lease's own calls

leased_from : (client : List ℕ) (o n : Option Store) (more : List Event) (s : Store)
    → All (IsLeaseEvent client) more → TellsRun o more n → n ≡ Some s
    → (was : Store) × (o ≡ Some was) × (s.contents.blobs ≡ was.contents.blobs)
leased_from client None n more s each run told = let silent = run in absurd cc
leased_from client (Some was) n more s each run told =
    let is : run.0 ≡ s = let now = run.1 in cc in (
      was,
      refl,
      ap (λ (x : Store). x.contents.blobs) (sym is) ∙ lease_leads client was more run.0 each run.2,
    )

pub agrees_leased : (client : List ℕ) (old new : SiteNow) → IsSameSite old new
    → Continues (IsLeaseEvent client) old.line new.line
    → session_calls new.line.trail ≡ session_calls old.line.trail → AgreeBut [] old
    → AgreeBut [] new
agrees_leased client old new same goes calls agree = λ id none s k told_store told_kept was.
    let from = leased_from client old.line.target.store new.line.target.store goes.more s goes.each
    goes.store told_store in
    agree id none from.0 k from.1 (ap (λ (x : KeeperNow). x.kept) (sym same.keeper) ∙ told_kept)
    (ap (moved id) (sym calls) ∙ was)
    ∙ ap (λ (x : List BlobBytes). Some (bytes_of x id)) (sym from.2)
