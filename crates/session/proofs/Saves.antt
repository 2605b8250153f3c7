-- Bytes that are got and saved, in two parts, and by a part that gets none.
use Rattle.std.specs.Prelude.{ℕ, ◌≡◌, ◌⊎◌, List, [], ◌∷◌, ◌++◌, ◌+◌, length, map, All, Bool, true, false, Option, Some, None, refl}
use Rattle.std.proofs.Common.{sym, ap, subst, ◌∙◌, append-nil, inl, inr}
use Rattle.std.proofs.lemmas.List.{append_assoc, append_cancel_left, map-append}
use Rattle.std.proofs.lemmas.List.Elements.{All-head, All-tail}
use Rattle.jop_base.specs.Keyed.{put}
use Rattle.jop_target.specs.declared.call.Call.{Call}
use Rattle.jop_target.specs.declared.call.Call.TheVariants.{List as ListDir, Get, Put, Delete, MakeDir, GetBlob, PutBlob}
use Rattle.jop_target.specs.declared.event.Event.{Event}
use Rattle.jop_target.specs.declared.event.Event.TheVariants.{Began, Sent, Called, Made, Ended}
use Rattle.jop_target.specs.declared.reply.Reply.{Reply}
use Rattle.lease.specs.Calls.{IsLeaseCall}
use Rattle.law_licences.specs.Deeds.{Deed, Begins, Asks, Makes, MakesUntold, Ends, Stops, events_of}
use Rattle.keeper.specs.Keepers.{blob_id}
use Rattle.keeper.specs.declared.blob.Blob.{Blob}
use Rattle.session.proofs.LockDeeds.{AreLocks}
use Rattle.session.specs.Doing.{Went}
use Rattle.session.specs.Saving.{Told, blobs_got, got_by, got_in, saved_all, tale_of}
use Rattle.session.specs.Steps.{IsStep}
use Rattle.session.specs.Work.{WorkNow}

pub saved_all-append : (kept xs ys : List Blob)
    → saved_all kept (xs ++ ys) ≡ saved_all (saved_all kept xs) ys
unfolding saved_all
saved_all-append kept [] ys = refl
saved_all-append kept (x ∷ xs) ys = saved_all-append (put blob_id kept x) xs ys

pub blobs_got-append : (ds es : List Deed)
    → blobs_got (ds ++ es) ≡ blobs_got ds ++ blobs_got es
unfolding blobs_got
blobs_got-append [] es = refl
blobs_got-append (d ∷ ds) es =
    ap (λ (rest : List Told). got_in d ++ rest) (blobs_got-append ds es)
    ∙ sym (append_assoc (got_in d) (blobs_got ds) (blobs_got es))

-- a lease gets no bytes of resources
none_by : (client : List ℕ) (call : Call) (reply : Reply) → IsLeaseCall client call
    → got_by call reply ≡ []
none_by client (MakeDir dir) reply own = refl
none_by client (ListDir dir) reply own = refl
none_by client (Put path content) reply own = refl
none_by client (Delete path) reply own = refl
none_by client (Get path) reply own = refl
none_by client (PutBlob id len) reply own = refl
none_by client (GetBlob id) reply own = absurd own

none_in : (client : List ℕ) (call : Call) (reply : Option Reply) → IsLeaseCall client call
    → got_in (Asks call reply) ≡ []
none_in client call None own = refl
none_in client call (Some reply) own = none_by client call reply own

pub blobs_got-locks : (client : List ℕ) (ds : List Deed) → AreLocks client ds
    → blobs_got ds ≡ []
unfolding AreLocks blobs_got
blobs_got-locks client [] h = refl
blobs_got-locks client (Asks call reply ∷ ds) h =
    ap (λ (x : List Told). x ++ blobs_got ds) (none_in client call reply h.0)
    ∙ blobs_got-locks client ds h.1
blobs_got-locks client (Begins ∷ ds) h = absurd h
blobs_got-locks client (Makes c ∷ ds) h = absurd h
blobs_got-locks client (MakesUntold ∷ ds) h = absurd h
blobs_got-locks client (Ends ∷ ds) h = absurd h
blobs_got-locks client (Stops ∷ ds) h = absurd h

-- ---- two parts

-- what both parts got is saved, but for what the second one owes
pub got_both : (ds es : List Deed) (xs ys : List Blob) (first second : List Told)
    → blobs_got ds ≡ map tale_of xs ++ first → first ≡ []
    → blobs_got es ≡ map tale_of ys ++ second
    → blobs_got (ds ++ es) ≡ map tale_of (xs ++ ys) ++ second
got_both ds es xs ys first second h none k =
    let all : blobs_got ds ≡ map tale_of xs =
    h ∙ (ap (λ (x : List Told). map tale_of xs ++ x) none ∙ append-nil (map tale_of xs)) in
    blobs_got-append ds es
    ∙ (ap (λ (x : List Told). x ++ blobs_got es) all
    ∙ (ap (λ (x : List Told). map tale_of xs ++ x) k
    ∙ (sym (append_assoc (map tale_of xs) (map tale_of ys) second)
    ∙ ap (λ (x : List Told). x ++ second) (sym (map-append tale_of xs ys)))))

-- ---- a part that gets none

-- a get of a resource's bytes is no call of this sort
abbrev pub GetsNone : (Call → Bool) → Type 0
GetsNone sort = (id : List ℕ) → sort (GetBlob id) ≡ false

none_sorted : (sort : Call → Bool) (client : List ℕ) (call : Call) (reply : Reply)
    → GetsNone sort → (sort call ≡ true) ⊎ IsLeaseCall client call → got_by call reply ≡ []
none_sorted sort client call reply none (inr own) = none_by client call reply own
none_sorted sort client (GetBlob id) reply none (inl is) =
    let no : true ≡ false = sym is ∙ none id in
    absurd cc
none_sorted sort client (MakeDir dir) reply none (inl is) = refl
none_sorted sort client (ListDir dir) reply none (inl is) = refl
none_sorted sort client (Put path content) reply none (inl is) = refl
none_sorted sort client (Delete path) reply none (inl is) = refl
none_sorted sort client (Get path) reply none (inl is) = refl
none_sorted sort client (PutBlob id len) reply none (inl is) = refl

none_got : (sort : Call → Bool) (client : List ℕ) (n : ℕ) (ds : List Deed) → GetsNone sort
    → All (IsStep sort client) (events_of n ds) → blobs_got ds ≡ []
unfolding blobs_got events_of
none_got sort client n [] none each = refl
none_got sort client n (Asks call None ∷ ds) none each =
    none_got sort client n ds none
    (All-tail (IsStep sort client) (Sent call) (events_of n ds) each)
none_got sort client n (Asks call (Some reply) ∷ ds) none each =
    ap (λ (x : List Told). x ++ blobs_got ds)
    (none_sorted sort client call reply none
    (All-head (IsStep sort client) (Called call reply) (events_of n ds) each))
    ∙ none_got sort client n ds none
    (All-tail (IsStep sort client) (Called call reply) (events_of n ds) each)
none_got sort client n (Makes c ∷ ds) none each =
    none_got sort client (n + 1) ds none
    (All-tail (IsStep sort client) (Made n) (events_of (n + 1) ds) each)
none_got sort client n (MakesUntold ∷ ds) none each =
    none_got sort client (n + 1) ds none
    (All-tail (IsStep sort client) (Made n) (events_of (n + 1) ds) each)
none_got sort client n (Begins ∷ ds) none each =
    absurd (All-head (IsStep sort client) Began (events_of n ds) each)
none_got sort client n (Ends ∷ ds) none each =
    absurd (All-head (IsStep sort client) Ended (events_of n ds) each)
none_got sort client n (Stops ∷ ds) none each =
    none_got sort client n ds none each

pub none_told : (xs : List Blob) (owed : List Told) → [] ≡ map tale_of xs ++ owed → xs ≡ []
none_told [] owed h = refl
none_told (x ∷ xs) owed h = absurd cc

-- so it saves none
pub saves_none : (sort : Call → Bool) (a b : WorkNow) (w : Went sort a b) → GetsNone sort
    → w.saves ≡ []
saves_none sort a b w none =
    let n = length a.site.made in
    let line = w.goes.line in
    let same : line.more ≡ events_of n w.deeds =
    append_cancel_left a.site.line.trail line.more (events_of n w.deeds)
    (sym line.trail ∙ w.trail) in
    let each : All (IsStep sort a.lease.client) (events_of n w.deeds) =
    subst (λ (es : List Event). All (IsStep sort a.lease.client) es) same line.each in
    none_told w.saves w.owed (sym (none_got sort a.lease.client n w.deeds none each) ∙ w.got)
