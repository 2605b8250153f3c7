-- What an opening leaves of the info: the client's own is the merge of what it was and what was read.
use Rattle.std.proofs.Common.{◌≡◌, ◌∙◌, ap, sym, subst, inl, inr, List, Some}
use Rattle.law_licences.proofs.Joins.{view_from-append}
use Rattle.law_licences.specs.Deeds.{Deed}
use Rattle.law_licences.specs.Infos.{info_read}
use Rattle.law_licences.specs.Trails.{session_calls}
use Rattle.law_licences.specs.Views.{Heard, View, view_from}
use Rattle.local_store.specs.declared.tables.Tables.{Tables}
use Rattle.session.proofs.Behind.{behind}
use Rattle.session.specs.Doing.{Does}
use Rattle.session.specs.Work.{WorkNow}
use Rattle.session_opening.proofs.Gets.{info_last}
use Rattle.session_opening.proofs.Joined.{put_read}
use Rattle.session_opening.specs.Opening.{Opens, SetsInfo, is_opening}
use Rattle.sync_info.proofs.Valid.{IsInfo-info_in}
use Rattle.sync_info.specs.Info.{IsInfo}
use Rattle.sync_info.specs.Merge.{merged}
use Rattle.sync_info.specs.declared.info.Info.{Info}

-- ---- the client's own

pub set_info : (info : Info) (v : View) (ds : List Deed) → SetsInfo info v ds
    → (view_from v ds).tables.info ≡ info
unfolding view_from
set_info info v ds (inl h) =
    ap (λ (x : List Deed). (view_from v x).tables.info) h.1 ∙ sym h.0
set_info info v ds (inr h) = ap (λ (x : List Deed). (view_from v x).tables.info) h.1

pub set_calls : (info : Info) (v : View) (ds : List Deed) → SetsInfo info v ds
    → (view_from v ds).calls ≡ v.calls
unfolding view_from
set_calls info v ds (inl h) = ap (λ (x : List Deed). (view_from v x).calls) h.1
set_calls info v ds (inr h) = ap (λ (x : List Deed). (view_from v x).calls) h.1

-- ---- the merge

-- the info of these tables is the merge with the one that was read last by these calls
pub record IsMergedIn (t : Tables) (calls : List Heard) : Type 0 where
  pub remote : Info
  pub valid : IsInfo remote
  pub read : info_read calls ≡ Some remote
  pub own : Info
  pub is : t.info ≡ merged own remote

merged_behind : (v : View) (ds : List Deed) → Opens v ds
    → IsMergedIn (view_from v ds).tables (view_from v ds).calls
merged_behind v ds h =
    let remote = h.0 in
    let both = h.1.1 in
    let w = view_from v both.first in
    let joins = both.behind in
    let info = merged w.tables.info remote in
    let m = view_from w joins.first in
    let end : view_from v ds ≡ view_from m joins.second =
    ap (λ (x : List Deed). view_from v x) both.both
    ∙ (view_from-append v both.first both.second
    ∙ (ap (λ (x : List Deed). view_from w x) joins.both
    ∙ view_from-append w joins.first joins.second)) in
    subst (λ (u : View). IsMergedIn u.tables u.calls) (sym end) (record {
      remote = remote;
      valid = IsInfo-info_in both.before.1.0 remote both.before.1.1.0;
      read = ap info_read (set_calls info m joins.second joins.behind)
          ∙ (put_read info remote w joins.first joins.before
          ∙ info_last remote v both.first both.before);
      own = w.tables.info;
      is = set_info info m joins.second joins.behind;
    })

pub merged_opened : (a b : WorkNow) → Does Opens is_opening a b
    → IsMergedIn b.site.tables (session_calls b.site.line.trail)
merged_opened a b h = behind (λ t cs u us. IsMergedIn u us) Opens is_opening a b merged_behind h
