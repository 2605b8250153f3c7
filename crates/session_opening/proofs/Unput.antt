-- An opening puts no item's file.
use Rattle.std.specs.Prelude.{ℕ, ◌≡◌, List, Bool}
use Rattle.std.proofs.Common.{◌∙◌, ap, inl, inr}
use Rattle.jop_target.specs.declared.call.Call.{Call}
use Rattle.law_licences.proofs.Joins.{view_from-append}
use Rattle.law_licences.specs.Deeds.{Deed}
use Rattle.law_licences.specs.Puts.{has_put}
use Rattle.law_licences.specs.Views.{View, view_from}
use Rattle.session_opening.specs.Opening.{Joins, Opens, PutsInfo, PutsNoItem, ReadsInfo, SetsInfo}
use Rattle.session.proofs.Behind.{behind}
use Rattle.session.specs.Doing.{Does}
use Rattle.session.specs.Parts.{Part, Then}
use Rattle.session.specs.Work.{WorkNow}
use Rattle.sync_info.specs.Merge.{merged}
use Rattle.sync_info.specs.declared.info.Info.{Info}

-- by whatever is seen before it
abbrev IsUnput : Part → Type 0
IsUnput P =
    (v : View) (ds : List Deed) → P v ds → (id : List ℕ)
    → has_put id (view_from v ds).calls ≡ has_put id v.calls

read_unput : (info : Info) → IsUnput (ReadsInfo info)
unfolding has_put view_from
read_unput info v ds h id = ap (λ (x : List Deed). has_put id (view_from v x).calls) h.1.1.1

put_unput : (info remote : Info) → IsUnput (PutsInfo info remote)
unfolding has_put view_from
put_unput info remote v ds (inl h) id =
    ap (λ (x : List Deed). has_put id (view_from v x).calls) h.1
put_unput info remote v ds (inr h) id =
    ap (λ (x : List Deed). has_put id (view_from v x).calls) h.1.1

set_unput : (info : Info) → IsUnput (SetsInfo info)
unfolding view_from
set_unput info v ds (inl h) id = ap (λ (x : List Deed). has_put id (view_from v x).calls) h.1
set_unput info v ds (inr h) id = ap (λ (x : List Deed). has_put id (view_from v x).calls) h.1

then_unput : (P Q : Part) → IsUnput P → IsUnput Q → IsUnput (Then P Q)
then_unput P Q first second v ds h id =
    let w = view_from v h.first in
    ap (λ (x : List Deed). has_put id (view_from v x).calls) h.both
    ∙ (ap (λ (x : View). has_put id x.calls) (view_from-append v h.first h.second)
    ∙ (second w h.second h.behind id ∙ first v h.first h.before id))

join_unput : (remote : Info) → IsUnput (Joins remote)
join_unput remote v ds h id =
    let info = merged v.tables.info remote in
    then_unput (PutsInfo info remote) (SetsInfo info) (put_unput info remote) (set_unput info) v ds
    h id

open_unput : IsUnput Opens
open_unput v ds h id =
    then_unput (ReadsInfo h.0) (Joins h.0) (read_unput h.0) (join_unput h.0) v ds h.1.1 id

pub unput_behind : (sort : Call → Bool) (a b : WorkNow) → Does Opens sort a b
    → PutsNoItem a.site b.site
unput_behind sort a b h =
    behind (λ t cs u us. (id : List ℕ) → has_put id us ≡ has_put id cs) Opens sort a b
    open_unput h
