-- What has its licence by what one has seen has it by what the client knows of each item.
use Rattle.std.proofs.Common.{◌≡◌, ◌∙◌, refl, ap, sym, subst, cond, ℕ, List, [], ◌∷◌, Bool, true, false, Option, Some, None}
use Rattle.std.specs.Prelude.{bytes_eq, is_some, ◌||◌}
use Rattle.std.proofs.lemmas.Bool.{and_from}
use Rattle.jop_base.specs.declared.path.Path.{Path}
use Rattle.jop_target.specs.History as target
use Rattle.jop_target.specs.declared.call.Call.{Call}
use Rattle.jop_target.specs.declared.call.Call.TheVariants.{List as ListDir, Get, Put, Delete, MakeDir, GetBlob, PutBlob}
use Rattle.jop_target.specs.declared.reply.Reply.{Reply}
use Rattle.jop_target.specs.declared.reply.Reply.TheVariants.{Failed}
use Rattle.local_store.specs.Tables.{row_at, base_of}
use Rattle.local_store.specs.Tale.{TaleStep}
use Rattle.local_store.specs.declared.change.Change.{Change}
use Rattle.local_store.specs.declared.tables.Tables.{Tables}
use Rattle.law_licences.specs.Checks.{is_file_of}
use Rattle.law_licences.specs.Deeds.{Deed, deed_by, deeds_in}
use Rattle.law_licences.specs.Deletions.{MayDelete}
use Rattle.law_licences.specs.Items.{item_of_file}
use Rattle.law_licences.specs.Licences.{IsInside, MayCall, MayDo, Each, ObeysBySome}
use Rattle.law_licences.specs.Puts.{MayPut}
use Rattle.law_licences.specs.Views.{View, seen}
use Rattle.law_kept.specs.Acts.{Act, Gets, Puts, Deletes, Elsewhere}
use Rattle.law_kept.specs.Licences.{is_waiting, has_read_base, has_read_nothing, may_act, obeys}
use Rattle.law_kept.specs.Own.{Own, own_after, acts_by}
use Rattle.law_kept.specs.Telling.{answer_told, was_done, called, act_of, steps_told, tables_after}
use Rattle.law_kept.specs.Known.{known}
use Rattle.local_store.proofs.Keeping.{IsOrdered}
use Rattle.law_kept.proofs.Calls.{its_path}
use Rattle.law_kept.proofs.EachChange.{change_licensed}
use Rattle.law_kept.proofs.Licensed.{pending_row, got_known, base_read}
use Rattle.law_kept.proofs.Rows.{base_known}
use Rattle.law_licences.proofs.Keyed.{with_keys}
use Rattle.law_kept.proofs.Seeing.{known_by_some, ordered_seen}

-- ---- calls

put_licensed : (v : View) (id bytes : List ℕ) (landed heard : Bool) → IsInside v.stage
    → MayPut v id bytes
    → may_act (item_of_file id) (known id v) (Puts bytes landed heard) ≡ true
put_licensed v id bytes landed heard is may =
    let row = (known id v).row in
    let session = (known id v).session in
    and_from (is_waiting row) (has_read_base session row || has_read_nothing session)
    (pending_row v id may.row may.pending)
    (base_read id may.row.base may.reply row session
    (sym (base_known (row_at v.tables id)) ∙ ap base_of may.pending.at)
    (got_known v id may.reply is may.check) may.same)

call_licensed : (id : List ℕ) (v : View) (call : Call) (reply : Reply) (landed : Bool)
    → IsInside v.stage → MayCall v call
    → may_act (item_of_file id) (known id v) (called id call reply landed) ≡ true
call_licensed id v (Put path bytes) reply landed is may = by (is_file_of id path) refl where
  by : (its : Bool) → is_file_of id path ≡ its
      → may_act (item_of_file id) (known id v)
      (cond its (Puts bytes landed (was_done reply)) Elsewhere) ≡ true
  by true on =
      put_licensed v id bytes landed (was_done reply) is
      (subst (λ (p : Path). MayCall v (Put p bytes)) (its_path id path on) may)
  by false off = refl
call_licensed id v (Delete path) reply landed is may = by (is_file_of id path) refl where
  by : (its : Bool) → is_file_of id path ≡ its
      → may_act (item_of_file id) (known id v) (cond its (Deletes landed) Elsewhere) ≡ true
  by true on =
      let delete : MayDelete v id =
      subst (λ (p : Path). MayCall v (Delete p)) (its_path id path on) may in
      ap is_some delete.at
  by false off = refl
call_licensed id v (Get path) reply landed is may = by (is_file_of id path) where
  by : (its : Bool)
      → may_act (item_of_file id) (known id v) (cond its (Gets (answer_told reply)) Elsewhere) ≡ true
  by true = refl
  by false = refl
call_licensed id v (ListDir dir) reply landed is may = refl
call_licensed id v (MakeDir dir) reply landed is may = refl
call_licensed id v (GetBlob other) reply landed is may = refl
call_licensed id v (PutBlob other len) reply landed is may = refl

-- ---- all steps

step_licensed : (id : List ℕ) (next : ℕ) (v : View) (x : target.Happening) (c : Option Change)
    → MayDo v (deed_by x c)
    → may_act (item_of_file id) (known id v) (act_of id next x c) ≡ true
step_licensed id next v (target.Answered call reply landed) c may =
    call_licensed id v call reply landed may.0 may.1
step_licensed id next v (target.Unheard call landed) c may =
    call_licensed id v call Failed landed may.0 may.1
step_licensed id next v (target.Changed number) None may = refl
step_licensed id next v (target.Changed number) (Some c) may =
    change_licensed id next v c v.stage refl may
step_licensed id next v target.Begins c may = refl
step_licensed id next v target.Ends c may = refl
step_licensed id next v target.Stopped c may = refl

-- the client does this step, or another one does
obeys_step : (id : List ℕ) (next : ℕ) (v : View) (s : TaleStep) (ds : List Deed) (rest : List Act)
    (mine : Bool)
    → IsOrdered v.tables
    → ((u : View) → IsOrdered u.tables → ObeysBySome u ds
    → obeys (item_of_file id) (known id u) rest ≡ true)
    → ObeysBySome v (cond mine (deed_by s.step.happens s.change ∷ ds) ds)
    → obeys (item_of_file id) (known id v)
    (cond mine (act_of id next s.step.happens s.change ∷ rest) rest)
    ≡ true
unfolding Each obeys
obeys_step id next v s ds rest true o later may =
    let d : Deed = deed_by s.step.happens s.change in
    let act : Act = act_of id next s.step.happens s.change in
    and_from (may_act (item_of_file id) (known id v) act)
    (obeys (item_of_file id) (own_after (known id v) act) rest)
    (step_licensed id next (with_keys may.0.0 v) s.step.happens s.change may.0.1)
    (subst (λ (own : Own). obeys (item_of_file id) own rest ≡ true)
    (known_by_some id next v s.step.happens s.change o may.0)
    (later (seen v d) (ordered_seen v d o) may.1))
obeys_step id next v s ds rest false o later may = later v o may

pub obeys_from : (id client : List ℕ) (clients : List ℕ → Tables) (v : View) (ss : List TaleStep)
    → IsOrdered v.tables → ObeysBySome v (deeds_in client ss)
    → obeys (item_of_file id) (known id v) (acts_by client (steps_told id clients ss)) ≡ true
unfolding deeds_in obeys acts_by steps_told
obeys_from id client clients v [] o may = refl
obeys_from id client clients v (s ∷ ss) o may =
    obeys_step id (clients s.step.client).next_conflict v s (deeds_in client ss)
    (acts_by client (steps_told id (tables_after clients s) ss)) (bytes_eq s.step.client client) o
    (λ u. obeys_from id client (tables_after clients s) u ss) may
