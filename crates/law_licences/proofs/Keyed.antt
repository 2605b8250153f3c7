-- Licences under whatever keys.
use Rattle.std.specs.Prelude.{◌≡◌, List, [], ◌∷◌, Option, Some, None, refl}
use Rattle.std.proofs.Common.{sym, ap, subst}
use Rattle.jop_base.specs.declared.dir.Dir.{Dir}
use Rattle.jop_base.specs.declared.dir.Dir.TheVariants.{Root, Resources, OldSync, Locks, Temp, Tombs}
use Rattle.jop_target.specs.declared.call.Call.{Call}
use Rattle.jop_target.specs.declared.call.Call.TheVariants.{List as ListDir, Get, Put, Delete, MakeDir, GetBlob, PutBlob}
use Rattle.jop_target.specs.declared.reply.Reply.{Reply}
use Rattle.jop_target.specs.declared.reply.Reply.TheVariants.{Listed, Got, GotBlob, Absent, Done, Failed, TooLarge}
use Rattle.law_licences.specs.Deeds.{Deed, Begins, Asks, Makes, MakesUntold, Ends, Stops}
use Rattle.law_licences.specs.Licences.{Each, ObeysBySome, ObeysData}
use Rattle.law_licences.specs.Sealing.{Sealing}
use Rattle.law_licences.specs.Views.{Shown, View, view_after_call, seen, shown_after, shown_by, shown_in}

-- ---- what is seen

-- the same, but for the keys
abbrev pub with_keys : Sealing → View → View
with_keys s v = record v { sealing = s }

shown_keyed : (s : Sealing) (v : View) (reply : Option Reply)
    → shown_by (with_keys s v) reply ≡ shown_by v reply
shown_keyed s v None = refl
shown_keyed s v (Some (Listed listing)) = refl
shown_keyed s v (Some (Got now content)) = refl
shown_keyed s v (Some (GotBlob now len)) = refl
shown_keyed s v (Some (Absent now)) = refl
shown_keyed s v (Some (Done now)) = refl
shown_keyed s v (Some Failed) = refl
shown_keyed s v (Some (TooLarge len)) = refl

in_keyed : (s : Sealing) (v : View) (dir : Dir) (reply : Option Reply)
    → shown_in (with_keys s v) dir reply ≡ shown_in v dir reply
in_keyed s v Root reply = shown_keyed s v reply
in_keyed s v Resources reply = refl
in_keyed s v OldSync reply = refl
in_keyed s v Locks reply = refl
in_keyed s v Temp reply = refl
in_keyed s v Tombs reply = refl

called_keyed : (s : Sealing) (v : View) (call : Call) (reply : Option Reply)
    → shown_after (with_keys s v) call reply ≡ shown_after v call reply
called_keyed s v (ListDir dir) reply = in_keyed s v dir reply
called_keyed s v (Get path) reply = refl
called_keyed s v (Put path content) reply = refl
called_keyed s v (Delete path) reply = refl
called_keyed s v (MakeDir dir) reply = refl
called_keyed s v (GetBlob id) reply = refl
called_keyed s v (PutBlob id len) reply = refl

heard_keyed : (s : Sealing) (v : View) (call : Call) (reply : Option Reply)
    → view_after_call (with_keys s v) call reply ≡ with_keys s (view_after_call v call reply)
heard_keyed s v call reply =
    ap (λ (shown : Option Shown). record (with_keys s (view_after_call v call reply)) { shown = shown })
    (called_keyed s v call reply)

-- what is seen of a deed is the same, whatever the keys
pub seen_keyed : (s : Sealing) (v : View) (d : Deed)
    → seen (with_keys s v) d ≡ with_keys s (seen v d)
seen_keyed s v Begins = refl
seen_keyed s v (Asks call reply) = heard_keyed s v call reply
seen_keyed s v (Makes change) = refl
seen_keyed s v MakesUntold = refl
seen_keyed s v Ends = refl
seen_keyed s v Stops = refl

-- ---- licences

pub by_some : (v : View) (ds : List Deed) → ObeysData v ds → ObeysBySome v ds
unfolding Each
by_some v [] h = tt
by_some v (d ∷ ds) h = ((v.sealing, h.0), by_some (seen v d) ds h.1)

pub by_some_keyed : (s : Sealing) (v : View) (ds : List Deed) → ObeysBySome v ds
    → ObeysBySome (with_keys s v) ds
unfolding Each
by_some_keyed s v [] h = tt
by_some_keyed s v (d ∷ ds) h = (
  h.0,
  subst (λ (u : View). ObeysBySome u ds) (sym (seen_keyed s v d))
      (by_some_keyed s (seen v d) ds h.1),
)
