-- What is seen over two parts of a session.
use Rattle.std.specs.Prelude.{◌≡◌, List, [], ◌∷◌, ◌++◌, Bool, true, false, if◌then◌else◌, Option, refl}
use Rattle.std.proofs.Common.{sym, ap, ◌∙◌}
use Rattle.conflicts.specs.declared.report.SyncReport.{SyncReport}
use Rattle.jop_base.specs.declared.dir.Dir.TheVariants.{Root}
use Rattle.jop_target.specs.declared.call.Call.{Call}
use Rattle.jop_target.specs.declared.call.Call.TheVariants.{List as ListDir}
use Rattle.jop_target.specs.declared.reply.Reply.{Reply}
use Rattle.law_licences.specs.Deeds.{Deed, Begins, Asks, Makes, MakesUntold, Ends, Stops}
use Rattle.law_licences.specs.Views.{Shown, View, view_after_change, view_after_call, is_about_locks, seen, shown_after, view_from}
use Rattle.session.specs.Parts.{but_locks, with_deed}
use Rattle.session.specs.Reported.{after_deed, reported}

pub reported-append : (v : View) (r : SyncReport) (ds es : List Deed)
    → reported v r (ds ++ es) ≡ reported (view_from v ds) (reported v r ds) es
unfolding reported view_from
reported-append v r [] es = refl
reported-append v r (d ∷ ds) es = reported-append (seen v d) (after_deed v r d) ds es

with_deed_if : (locks : Bool) (call : Call) (reply : Option Reply) (ds es rest : List Deed)
    → ds ≡ rest ++ es
    → (if locks then ds else Asks call reply ∷ ds)
    ≡ (if locks then rest else Asks call reply ∷ rest) ++ es
with_deed_if true call reply ds es rest same = same
with_deed_if false call reply ds es rest same = ap (λ (x : List Deed). Asks call reply ∷ x) same

with_deed-append : (d : Deed) (ds rest es : List Deed) → ds ≡ rest ++ es
    → with_deed d ds ≡ with_deed d rest ++ es
with_deed-append Begins ds rest es same = ap (λ (x : List Deed). Begins ∷ x) same
with_deed-append (Asks call reply) ds rest es same =
    with_deed_if (is_about_locks call) call reply ds es rest same
with_deed-append (Makes c) ds rest es same = ap (λ (x : List Deed). Makes c ∷ x) same
with_deed-append MakesUntold ds rest es same = ap (λ (x : List Deed). MakesUntold ∷ x) same
with_deed-append Ends ds rest es same = ap (λ (x : List Deed). Ends ∷ x) same
with_deed-append Stops ds rest es same = ap (λ (x : List Deed). Stops ∷ x) same

pub but_locks-append : (ds es : List Deed) → but_locks (ds ++ es) ≡ but_locks ds ++ but_locks es
unfolding but_locks
but_locks-append [] es = refl
but_locks-append (d ∷ ds) es =
    with_deed-append d (but_locks (ds ++ es)) (but_locks ds) (but_locks es)
    (but_locks-append ds es)

-- ---- locks

shown_lock : (v : View) (call : Call) (reply : Option Reply) → is_about_locks call ≡ true
    → shown_after v call reply ≡ v.shown
shown_lock v (ListDir Root) reply h = absurd cc
shown_lock v call reply h = refl

-- a call about locks leaves what is seen as it is
pub heard-locks : (v : View) (call : Call) (reply : Option Reply) → is_about_locks call ≡ true
    → view_after_call v call reply ≡ v
heard-locks v call reply h =
    ap (λ (b : Bool). record v {
      calls = if b then v.calls else record { call = call; reply = reply } ∷ v.calls;
      shown = shown_after v call reply;
    }) h
    ∙ ap (λ (s : Option Shown). record v { calls = v.calls; shown = s }) (shown_lock v call reply h)

but_locks_if : (locks : Bool) (v : View) (call : Call) (reply : Option Reply) (ds : List Deed)
    → is_about_locks call ≡ locks
    → view_from (view_after_call v call reply) (but_locks ds)
    ≡ view_from (view_after_call v call reply) ds
    → view_from v (if locks then but_locks ds else Asks call reply ∷ but_locks ds)
    ≡ view_from (view_after_call v call reply) ds
unfolding view_from
but_locks_if true v call reply ds h later =
    ap (λ (w : View). view_from w (but_locks ds)) (sym (heard-locks v call reply h)) ∙ later
but_locks_if false v call reply ds h later = later

-- so what is seen is the same without them
pub view_from-but_locks : (v : View) (ds : List Deed)
    → view_from v (but_locks ds) ≡ view_from v ds
unfolding view_from but_locks
view_from-but_locks v [] = refl
view_from-but_locks v (Begins ∷ ds) = view_from-but_locks (seen v Begins) ds
view_from-but_locks v (Asks call reply ∷ ds) =
    but_locks_if (is_about_locks call) v call reply ds refl
    (view_from-but_locks (view_after_call v call reply) ds)
view_from-but_locks v (Makes c ∷ ds) = view_from-but_locks (view_after_change v c) ds
view_from-but_locks v (MakesUntold ∷ ds) = view_from-but_locks v ds
view_from-but_locks v (Ends ∷ ds) = view_from-but_locks (seen v Ends) ds
view_from-but_locks v (Stops ∷ ds) = view_from-but_locks (seen v Stops) ds
