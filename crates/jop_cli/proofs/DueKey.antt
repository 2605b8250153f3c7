-- A sync that wants a key ends by the refusal for it.
use Rattle.std.proofs.Common.{ℕ, ◌≡◌, ◌∙◌, sym, ap, subst, inl, inr, List, []}
use Rattle.std.proofs.Common.{◌&&◌, Option, Some, Result, Ok, Err}
use Rattle.std.specs.Prelude.{option_map}
use Rattle.client.specs.Outside.{OutsideNow}
use Rattle.client.specs.Owning.{Owns}
use Rattle.conflicts.specs.declared.refusal.Refusal.{Refusal}
use Rattle.conflicts.specs.declared.refusal.Refusal.TheVariants.{NoKey}
use Rattle.conflicts.specs.declared.report.SyncReport.{SyncReport}
use Rattle.jop_cli.proofs.Due.{behind_changes, told_due, unowned_line}
use Rattle.jop_cli.proofs.Owned.{owned}
use Rattle.jop_cli.specs.Commands.Sync.{SyncsAsNamed, sync_outcome, sync_status}
use Rattle.jop_cli.specs.Run.{AnswersKey, AnswersWords, EndsRefused, IsFreshOutside}
use Rattle.jop_outside.specs.Outside.{SinkNow}
use Rattle.jop_status.specs.Outcomes.{Emits, Outcome}
use Rattle.jop_status.specs.declared.status.Status.{Status}
use Rattle.jop_status.specs.declared.status.Status.TheVariants as statuses
use Rattle.jop_target.specs.Trail.{LineNow}
use Rattle.jop_target.specs.declared.event.Event.{Event}
use Rattle.jop_words.specs.declared.target_name.TargetName.{TargetName}
use Rattle.jop_words.specs.declared.verb.Verb.{Verb}
use Rattle.jop_words.specs.declared.verb.Verb.TheVariants as verbs
use Rattle.keeper.specs.Keepers.{IsOfKept, Kept, changed}
use Rattle.law_licences.specs.Views.{Heard}
use Rattle.local_store.specs.Changing.{after}
use Rattle.local_store.specs.declared.change.Change.TheVariants.{Named}
use Rattle.local_store.specs.declared.row.Row.{Row}
use Rattle.local_store.specs.declared.tables.Tables.{Tables}
use Rattle.session_opening.specs.Headway.{Headway, IsBeyond, IsOpened, headway_of}
use Rattle.session_opening.specs.Verdict.{last_calls, last_calls_from}
use Rattle.sync_info.specs.declared.info.Info.{Info}
use Rattle.sync_session.proofs.Wanted.{first_unread, unread_by_key}
use Rattle.sync_session.specs.Keys.{has_waiting}
use Rattle.sync_session.specs.Ordering.{EndsAtKeeper, GivesDue, HeedsKey, named_key}
use Rattle.sync_session.specs.declared.sync_err.SyncErr.{SyncErr}

-- ---- what is said of it

heeds_as : (One Other : Refusal → Type 0) (F G : Type 0) (t : Tables) (o : Headway)
    → ((why : Refusal) → One why → Other why) → (F → G) → HeedsKey One F t o → HeedsKey Other G t o
heeds_as One Other F G t o also fails h = record {
  spared = h.spared;
  given = λ info opened wants. elim (h.given info opened wants) [
    | inl given ↦ inl (also (NoKey (named_key info)) given)
    | inr failed ↦ inr (fails failed.0, failed.1)
  ];
}

-- the tables matter by their rows and the client's own info alone
heeds_for : (Given : Refusal → Type 0) (Fails : Type 0) (t u : Tables) (calls : List Heard)
    → t.rows ≡ u.rows → t.info ≡ u.info → HeedsKey Given Fails t (headway_of t.info calls)
    → HeedsKey Given Fails u (headway_of u.info calls)
heeds_for Given Fails t u calls rows own h = record {
  spared = λ info beyond.
      ap (λ (rs : List Row). info.e2ee.value && has_waiting rs) (sym rows)
      ∙ h.spared info
      (subst (λ (i : Info). IsBeyond info (headway_of i calls)) (sym own) beyond);
  given = λ info opened wants. elim (h.given info
      (subst (λ (i : Info). IsOpened info (headway_of i calls)) (sym own) opened)
      (ap (λ (rs : List Row). info.e2ee.value && has_waiting rs) rows ∙ wants)) [
        | inl given ↦ inl given
        | inr failed ↦ inr (failed.0, λ is. failed.1 (is ∙ sym own))
      ];
}

-- ---- the tables of a client that is known

-- as a session began with them, and as they are told at entry
record AreToldAs (t told : Tables) : Type 0 where
  pub rows : t.rows ≡ told.rows
  pub info : t.info ≡ told.info

same_tables : (client : List ℕ) (before named : OutsideNow) (k : Kept) (t : Tables)
    → Owns before (Ok client) named → before.keeper.kept ≡ Some k → IsOfKept named.keeper.kept t
    → AreToldAs t k.tables
same_tables client before named k t (inl was) told is =
    let same : t ≡ k.tables =
    subst (λ (o : Option Kept). IsOfKept o t)
    (ap (λ (o : OutsideNow). o.keeper.kept) was.same ∙ told) is in
    record {
      rows = ap (λ (x : Tables). x.rows) same;
      info = ap (λ (x : Tables). x.info) same;
    }
same_tables client before named k t (inr becomes) told is =
    let same : t ≡ after k.tables (Named client) =
    subst (λ (o : Option Kept). IsOfKept o t)
    (ap (λ (o : OutsideNow). o.keeper.kept) becomes.made
    ∙ ap (option_map (changed (Named client))) told) is in
    record {
      rows = ap (λ (x : Tables). x.rows) same;
      info = ap (λ (x : Tables). x.info) same;
    }

-- ---- a sync

told_keeper : (result : Result SyncReport SyncErr) (a b : SinkNow) (status : Status)
    → Emits (sync_outcome result) a status b → EndsAtKeeper result → status ≡ statuses.KeeperFault
told_keeper (Ok report) a b status emits ends = absurd ends
told_keeper (Err error) a b status emits ends = emits.0 ∙ ap sync_status ends

uncalled_key : (Given : Refusal → Type 0) (Fails : Type 0) (t : Tables) (trail : List Event)
    → trail ≡ [] → HeedsKey Given Fails t (headway_of t.info (last_calls trail))
unfolding last_calls_from
uncalled_key Given Fails t trail none =
    unread_by_key Given Fails t (headway_of t.info (last_calls trail))
    (first_unread t.info (last_calls trail) (ap last_calls none))

comes_key : (before mid : OutsideNow) (outcome : Outcome) (a b : SinkNow) (status : Status)
    → IsFreshOutside before → SyncsAsNamed before outcome mid → Emits outcome a status b
    → (k : Kept) → before.keeper.kept ≡ Some k
    → HeedsKey (EndsRefused status) (status ≡ statuses.KeeperFault) k.tables
    (headway_of k.tables.info (last_calls mid.line.trail))
comes_key before mid outcome a b status fresh (inl none) emits k told =
    uncalled_key (EndsRefused status) (status ≡ statuses.KeeperFault) k.tables mid.line.trail
    (ap (λ (l : LineNow). l.trail) (unowned_line before mid none.error none.owns)
    ∙ fresh.unwritten)
comes_key before mid outcome a b status fresh (inr ran) emits k told =
    let t = ran.ran.0 in
    let session = ran.ran.2 in
    let more = session.line.more in
    let of = owned ran.client before ran.named fresh ran.owns in
    let same = same_tables ran.client before ran.named k t ran.owns told ran.ran.1.told in
    let prints = subst (λ (o : Outcome). Emits o a status b) ran.is emits in
    let calls : last_calls mid.line.trail ≡ last_calls more =
    ap last_calls session.line.trail
    ∙ behind_changes [] ran.named.line.trail more of.uncalled in
    subst (λ (cs : List Heard). HeedsKey (EndsRefused status) (status ≡ statuses.KeeperFault)
    k.tables (headway_of k.tables.info cs)) (sym calls)
    (heeds_for (EndsRefused status) (status ≡ statuses.KeeperFault) t k.tables (last_calls more)
    same.rows same.info
    (heeds_as (GivesDue ran.result) (EndsRefused status) (EndsAtKeeper ran.result)
    (status ≡ statuses.KeeperFault) t (headway_of t.info (last_calls more))
    (told_due ran.result a b status prints) (told_keeper ran.result a b status prints)
    session.key))

obeyed_key : (target : TargetName) (before after : OutsideNow) (status : Status)
    → IsFreshOutside before → AnswersWords (Some (verbs.Sync target)) before status after
    → (k : Kept) → before.keeper.kept ≡ Some k
    → HeedsKey (EndsRefused status) (status ≡ statuses.KeeperFault) k.tables
    (headway_of k.tables.info (last_calls after.line.trail))
obeyed_key target before after status fresh (inl memory) k told =
    uncalled_key (EndsRefused status) (status ≡ statuses.KeeperFault) k.tables after.line.trail
    (ap (λ (o : OutsideNow). o.line.trail) memory.1 ∙ fresh.unwritten)
obeyed_key target before after status fresh (inr obeys) k told =
    subst (λ (l : LineNow). HeedsKey (EndsRefused status) (status ≡ statuses.KeeperFault) k.tables
    (headway_of k.tables.info (last_calls l.trail)))
    (sym (ap (λ (o : OutsideNow). o.line) obeys.emits.same))
    (comes_key before obeys.mid obeys.outcome obeys.mid.out after.out status fresh obeys.comes
    obeys.emits.emits k told)

-- ---- each command

pub key_of : (verb : Option Verb) (before after : OutsideNow) (status : Status)
    → IsFreshOutside before → AnswersWords verb before status after
    → (k : Kept) → before.keeper.kept ≡ Some k → AnswersKey verb k.tables status after.line.trail
key_of (Some (verbs.Sync target)) before after status fresh answers k told =
    obeyed_key target before after status fresh answers k told
key_of verb before after status fresh answers k told = tt
