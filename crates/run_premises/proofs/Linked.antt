-- A gap of one item's history is one among the steps.
use Rattle.std.proofs.Common.{◌≡◌, ◌∙◌, ◌<◌, ◌≤◌, refl, ap, arith, sym, subst, ℕ, zero, suc, List, [], ◌∷◌, Bool, true, false, cond, Option, Some, None, slice_get, length, map, get_or}
use Rattle.std.specs.Prelude.{option_map, bytes_eq}
use Rattle.std.proofs.lemmas.Bool.{false≢true, true≢false}
use Rattle.std.proofs.lemmas.Option.{slice_get-map, slice_get_within}
use Rattle.std.proofs.lemmas.List.{length-map}
use Rattle.std.proofs.lemmas.Slice.Eq.{bytes_eq-Decides}
use Rattle.jop_base.proofs.KeyedLaws.{bytes_eq-refl, bytes_eq-other}
use Rattle.jop_base.specs.declared.path.Path.TheVariants.{Item}
use Rattle.jop_target.specs.History.{Happening, Begins, Answered, Unheard, Changed, Ends, Stopped, landed_call}
use Rattle.jop_target.specs.History as target
use Rattle.jop_target.specs.declared.call.Call.{Call}
use Rattle.jop_target.specs.declared.call.Call.TheVariants.{Get, Put, Delete}
use Rattle.jop_target.specs.declared.reply.Reply.{Reply}
use Rattle.jop_target.specs.declared.reply.Reply.TheVariants.{Failed}
use Rattle.law_kept.specs.Acts as acts
use Rattle.law_kept.specs.Acts.{Act, Gets, Puts, Deletes, Changes, Elsewhere}
use Rattle.law_kept.specs.Gap.{HasGap, does, is_touching}
use Rattle.law_kept.specs.Telling as telling
use Rattle.law_kept.specs.Telling.{act_of, called, change_act, change_told, item_change, steps_of, steps_told}
use Rattle.law_licences.specs.Checks.{is_file_of}
use Rattle.local_store.specs.Tale.{Tale, TaleStep, plain_steps}
use Rattle.local_store.specs.declared.change.Change.{Change}
use Rattle.local_store.specs.Tables.{new_tables}
use Rattle.local_store.specs.declared.tables.Tables.{Tables}
use Rattle.run_premises.specs.Between.{IsCrossedAt, IsGapAt, is_own_turn, own_turn, other_turn, put_turn, step_turn, turn_for, turn_of, turn_of_call, turn_on, turns_for, uploaded_item, uploaded_in, uploaded_by}
use Rattle.run_premises.specs.Steps.{history_step}
use Rattle.run_premises.specs.declared.run_step.RunStep.{RunStep}
use Rattle.run_premises.specs.declared.turn.Turn.{Turn}
use Rattle.run_premises.specs.declared.turn.Turn.TheVariants.{Checks, Breaks, Uploads, Nothing}
use Rattle.run_premises.proofs.Standing.{here_mapped}

pub turn_here : (id client : List ℕ) (steps : List RunStep) (place : ℕ) (s : RunStep) → place < length steps →
    s ≡ get_or steps place s →
    slice_get (turns_for id client (map history_step steps)) place ≡ Some (step_turn id client (history_step s))
turn_here id client steps place s within is =
    slice_get-map (step_turn id client) (map history_step steps) place
    ∙ ap (option_map (step_turn id client)) (here_mapped steps place s within is)

some_same : {A : Type 0} (x y : A) → Some x ≡ Some y → x ≡ y
some_same x y e = cc

-- ---- what an act is

abbrev turn_by : Act → Turn
turn_by acts.Begins = Breaks
turn_by (Gets answer) = Checks
turn_by (Puts bytes landed heard) = put_turn landed
turn_by (Deletes landed) = Breaks
turn_by (Changes change) = Nothing
turn_by acts.Ends = Breaks
turn_by Elsewhere = Nothing

abbrev act_turn : List ℕ → acts.FileStep → Turn
act_turn client s = turn_for client s.client (turn_by s.act)

on_file : (b : Bool) (act : Act) → turn_by (cond b act Elsewhere) ≡ turn_on b (turn_by act)
on_file true act = refl
on_file false act = refl

called_turn : (id : List ℕ) (call : Call) (reply : Reply) (landed : Bool) →
    turn_by (called id call reply landed) ≡ turn_of_call id call landed
called_turn id (Get path) reply landed = on_file (is_file_of id path) _
called_turn id (Put path bytes) reply landed = on_file (is_file_of id path) _
called_turn id (Delete path) reply landed = on_file (is_file_of id path) _
called_turn id call reply landed = refl

-- a change does nothing with the file
quiet : (change : Option acts.ItemChange) → turn_by (change_act change) ≡ Nothing
quiet None = refl
quiet (Some change) = refl

changed_turn : (id : List ℕ) (next : ℕ) (change : Change) → turn_by (change_told id next change) ≡ Nothing
changed_turn id next change = quiet (item_change id next change)

happening_turn : (id : List ℕ) (next : ℕ) (x : Happening) (change : Option Change) →
    turn_by (act_of id next x change) ≡ turn_of id x
happening_turn id next (Answered call reply landed) change = called_turn id call reply landed
happening_turn id next (Unheard call landed) change = called_turn id call Failed landed
happening_turn id next (Changed number) (Some change) = changed_turn id next change
happening_turn id next (Changed number) None = refl
happening_turn id next x change = refl

same_turns : (id client : List ℕ) (at : List ℕ → Tables) (ss : List TaleStep) →
    map (act_turn client) (steps_told id at ss) ≡ turns_for id client (plain_steps ss)
unfolding steps_told
same_turns id client at [] = refl
same_turns id client at (s ∷ ss) =
    ap (λ (t : Turn). turn_for client s.step.client t ∷ map (act_turn client)
    (steps_told id (telling.tables_after at s) ss))
    (happening_turn id (at s.step.client).next_conflict s.step.happens s.change)
    ∙ ap (λ (ts : List Turn). step_turn id client s.step ∷ ts) (same_turns id client (telling.tables_after at s) ss)

-- ---- one turn

from_mapped : {A B : Type 0} (f : A → B) (xs : List A) (place : ℕ) (y : B) → slice_get (map f xs) place ≡ Some y →
    (x : A) × (slice_get xs place ≡ Some x) × (f x ≡ y)
from_mapped {A} {B} f xs place y here = go (slice_get xs place) refl (sym (slice_get-map f xs place) ∙ here)
  where
    go : (o : Option A) → slice_get xs place ≡ o → option_map f o ≡ Some y →
        (x : A) × (slice_get xs place ≡ Some x) × (f x ≡ y)
    go None is e = cc
    go (Some x) is e = (x, is, cc)

checks_from : (act : Act) → turn_by act ≡ Checks → (answer : acts.Answer) × (act ≡ Gets answer)
checks_from (Gets answer) e = (answer, refl)
checks_from (Puts bytes true heard) e = cc
checks_from (Puts bytes false heard) e = cc
checks_from act e = cc

uploads_from : (act : Act) → turn_by act ≡ Uploads →
    (bytes : List ℕ) × (heard : Bool) × (act ≡ Puts bytes true heard)
uploads_from (Puts bytes true heard) e = (bytes, heard, refl)
uploads_from (Puts bytes false heard) e = cc
uploads_from act e = cc

own_check : (b : Bool) (t : Turn) → cond b (own_turn t) (other_turn t) ≡ Checks → (b ≡ true) × (t ≡ Checks)
own_check true Checks e = (refl, refl)
own_check true Breaks e = cc
own_check true Uploads e = cc
own_check true Nothing e = cc
own_check false Checks e = cc
own_check false Breaks e = cc
own_check false Uploads e = cc
own_check false Nothing e = cc

other_upload : (b : Bool) (t : Turn) → cond b (own_turn t) (other_turn t) ≡ Uploads → (b ≡ false) × (t ≡ Uploads)
other_upload false Uploads e = (refl, refl)
other_upload true Checks e = cc
other_upload true Breaks e = cc
other_upload true Uploads e = cc
other_upload true Nothing e = cc
other_upload false Checks e = cc
other_upload false Breaks e = cc
other_upload false Nothing e = cc

touch_own : (act : Act) → is_own_turn (own_turn (turn_by act)) ≡ is_touching act
touch_own (Puts bytes true heard) = refl
touch_own (Puts bytes false heard) = refl
touch_own acts.Begins = refl
touch_own act = refl

other_quiet : (t : Turn) → is_own_turn (other_turn t) ≡ false
other_quiet Uploads = refl
other_quiet Checks = refl
other_quiet t = refl

-- ---- what stands at a place

act_at : (id : List ℕ) (at : List ℕ → Tables) (ss : List TaleStep) (place : ℕ) (s : target.Step) →
    slice_get (plain_steps ss) place ≡ Some s →
    (t : acts.FileStep) × (slice_get (steps_told id at ss) place ≡ Some t) × (t.client ≡ s.client)
    × (turn_by t.act ≡ turn_of id s.happens)
unfolding steps_told
act_at id at [] place s here = cc
act_at id at (t ∷ ss) zero s here =
    let same : t.step ≡ s = some_same t.step s here in (
      telling.step_of id (at t.step.client).next_conflict t,
      refl,
      ap (λ (u : target.Step). u.client) same,
      happening_turn id (at t.step.client).next_conflict t.step.happens t.change
          ∙ ap (λ (u : target.Step). turn_of id u.happens) same,
    )
act_at id at (t ∷ ss) (suc place) s here = act_at id (telling.tables_after at t) ss place s here

act_back : (id : List ℕ) (at : List ℕ → Tables) (ss : List TaleStep) (place : ℕ) (t : acts.FileStep) →
    slice_get (steps_told id at ss) place ≡ Some t →
    (s : target.Step) × (slice_get (plain_steps ss) place ≡ Some s) × (t.client ≡ s.client)
    × (turn_by t.act ≡ turn_of id s.happens)
unfolding steps_told
act_back id at [] place t here = cc
act_back id at (s ∷ ss) zero t here =
    let same : telling.step_of id (at s.step.client).next_conflict s ≡ t = some_same _ t here in (
      s.step,
      refl,
      ap (λ (u : acts.FileStep). u.client) (sym same),
      ap (λ (u : acts.FileStep). turn_by u.act) (sym same)
          ∙ happening_turn id (at s.step.client).next_conflict s.step.happens s.change,
    )
act_back id at (s ∷ ss) (suc place) t here = act_back id (telling.tables_after at s) ss place t here

-- ---- puts

file_is : (id other : List ℕ) → turn_on (bytes_eq other id) Uploads ≡ Uploads → Some other ≡ Some id
file_is id other e = go (bytes_eq other id) refl e
  where
    go : (b : Bool) → bytes_eq other id ≡ b → turn_on b Uploads ≡ Uploads → Some other ≡ Some id
    go true is e = ap (λ (i : List ℕ). Some i) ((bytes_eq-Decides other id).0 is)
    go false is e = cc

no_upload : (b : Bool) → ¬ (turn_on b Breaks ≡ Uploads)
no_upload true e = cc
no_upload false e = cc

no_upload_check : (b : Bool) → ¬ (turn_on b Checks ≡ Uploads)
no_upload_check true e = cc
no_upload_check false e = cc

call_uploads : (id : List ℕ) (call : Call) (landed : Bool) → turn_of_call id call landed ≡ Uploads →
    (landed ≡ true) × (uploaded_by call ≡ Some id)
call_uploads id (Put (Item other) bytes) true e = (refl, file_is id other e)
call_uploads id (Put path bytes) false e = absurd (no_upload (is_file_of id path) e)
call_uploads id (Get path) landed e = absurd (no_upload_check (is_file_of id path) e)
call_uploads id (Delete path) landed e = absurd (no_upload (is_file_of id path) e)
call_uploads id (Put path bytes) true e = cc
call_uploads id call landed e = cc

of_uploads : (id : List ℕ) (x : Happening) → turn_of id x ≡ Uploads → uploaded_in (landed_call x) ≡ Some id
of_uploads id (Answered call reply landed) e =
    let both = call_uploads id call landed e in rw (both.0) both.1
of_uploads id (Unheard call landed) e =
    let both = call_uploads id call landed e in rw (both.0) both.1
of_uploads id x e = cc

uploads_call : (id : List ℕ) (call : Call) → uploaded_by call ≡ Some id → turn_of_call id call true ≡ Uploads
uploads_call id (Put (Item other) bytes) e =
    let same : other ≡ id = some_same other id e in
    let is : bytes_eq other id ≡ true = (bytes_eq-Decides other id).1 same in
    rw (is) refl
uploads_call id call e = cc

uploads_of : (id : List ℕ) (x : Happening) → uploaded_in (landed_call x) ≡ Some id → turn_of id x ≡ Uploads
uploads_of id (Answered call reply true) e = uploads_call id call e
uploads_of id (Unheard call true) e = uploads_call id call e
uploads_of id x e = cc

-- ---- from the acts to the turns

acts_crossed : (done : List acts.FileStep) (g : HasGap done) → IsCrossedAt (map (act_turn g.client) done) g.put
acts_crossed done g = record {
  check = g.check;
  crossing = g.crossed.place;
  checks =
      slice_get-map (act_turn g.client) done g.check
      ∙ ap (option_map (act_turn g.client)) g.checks
      ∙ ap (λ (b : Bool). Some (cond b (own_turn Checks) (other_turn Checks))) (bytes_eq-refl g.client);
  crosses =
      slice_get-map (act_turn g.client) done g.crossed.place
      ∙ ap (option_map (act_turn g.client)) g.crossed.here
      ∙ ap (λ (b : Bool). Some (cond b (own_turn Uploads) (other_turn Uploads)))
      (bytes_eq-other g.crossed.other g.client g.crossed.apart);
  after = g.crossed.after;
  before = g.crossed.before;
  still = λ place t from to here.
      let found = from_mapped (act_turn g.client) done place t here in
      subst (λ (u : Turn). is_own_turn u ≡ false) found.2
      (quiet found.0 (bytes_eq found.0.client g.client) refl
      (λ same. g.still place found.0 from to found.1 same));
}
  where
    quiet : (s : acts.FileStep) (b : Bool) → bytes_eq s.client g.client ≡ b →
        (s.client ≡ g.client → is_touching s.act ≡ false) →
        is_own_turn (cond b (own_turn (turn_by s.act)) (other_turn (turn_by s.act))) ≡ false
    quiet s true is still = touch_own s.act ∙ still ((bytes_eq-Decides s.client g.client).0 is)
    quiet s false is still = other_quiet (turn_by s.act)

step_is : (s : acts.FileStep) (client : List ℕ) (act : Act) → s.client ≡ client → s.act ≡ act → s ≡ does client act
step_is s client act p q = λ k. does (p k) (q k)

crossed_acts : (client : List ℕ) (done : List acts.FileStep) (put : ℕ) (bytes : List ℕ) (heard : Bool) →
    slice_get done put ≡ Some (does client (Puts bytes true heard)) →
    IsCrossedAt (map (act_turn client) done) put → HasGap done
crossed_acts client done put bytes heard puts x =
    let c = from_mapped (act_turn client) done x.check Checks x.checks in
    let own = own_check (bytes_eq c.0.client client) (turn_by c.0.act) c.2 in
    let gets = checks_from c.0.act own.1 in
    let o = from_mapped (act_turn client) done x.crossing Uploads x.crosses in
    let other = other_upload (bytes_eq o.0.client client) (turn_by o.0.act) o.2 in
    let ups = uploads_from o.0.act other.1 in
    record {
      client = client;
      check = x.check;
      put = put;
      answer = gets.0;
      bytes = bytes;
      heard = heard;
      checks =
          c.1 ∙ ap (λ (s : acts.FileStep). Some s)
          (step_is c.0 client (Gets gets.0) ((bytes_eq-Decides c.0.client client).0 own.0) gets.1);
      puts = puts;
      still = λ place s from to here same.
          still s (bytes_eq s.client client) ((bytes_eq-Decides s.client client).1 same)
          (x.still place (act_turn client s) from to
          (slice_get-map (act_turn client) done place ∙ ap (option_map (act_turn client)) here));
      crossed = record {
        place = x.crossing;
        other = o.0.client;
        bytes = ups.0;
        heard = ups.1;
        here =
            o.1 ∙ ap (λ (s : acts.FileStep). Some s)
            (step_is o.0 o.0.client (Puts ups.0 true ups.1) refl ups.2);
        apart = λ same. true≢false (sym ((bytes_eq-Decides o.0.client client).1 same) ∙ other.0);
        after = x.after;
        before = x.before;
      };
    }
  where
    still : (s : acts.FileStep) (b : Bool) → b ≡ true →
        is_own_turn (cond b (own_turn (turn_by s.act)) (other_turn (turn_by s.act))) ≡ false → is_touching s.act ≡ false
    still s true is quiet = sym (touch_own s.act) ∙ quiet
    still s false is quiet = absurd (false≢true is)

-- ---- the two gaps

pub gap_from : (id : List ℕ) (tale : Tale) (ss : List target.Step) → plain_steps tale.steps ≡ ss →
    (g : HasGap (steps_of id tale)) → IsGapAt ss g.put
gap_from id tale ss same g =
    let new : List ℕ → Tables = λ client. new_tables in
    let back = act_back id new tale.steps g.put (does g.client (Puts g.bytes true g.heard)) g.puts in
    let turned : map (act_turn g.client) (steps_of id tale) ≡ turns_for id back.0.client ss =
    same_turns id g.client new tale.steps
    ∙ ap (λ (c : List ℕ). turns_for id c (plain_steps tale.steps)) back.2
    ∙ ap (λ (l : List target.Step). turns_for id back.0.client l) same in
    record {
      step = back.0;
      id = id;
      here = subst (λ (l : List target.Step). slice_get l g.put ≡ Some back.0) same back.1;
      puts = of_uploads id back.0.happens (sym back.3);
      crossed = subst (λ (ts : List Turn). IsCrossedAt ts g.put) turned (acts_crossed (steps_of id tale) g);
    }

pub gap_to : (tale : Tale) (ss : List target.Step) (put : ℕ) → plain_steps tale.steps ≡ ss →
    (g : IsGapAt ss put) → HasGap (steps_of g.id tale)
gap_to tale ss put same g =
    let new : List ℕ → Tables = λ client. new_tables in
    let at = act_at g.id new tale.steps put g.step
    (subst (λ (l : List target.Step). slice_get l put ≡ Some g.step) (sym same) g.here) in
    let ups = uploads_from at.0.act (at.3 ∙ uploads_of g.id g.step.happens g.puts) in
    let turned : turns_for g.id g.step.client ss ≡ map (act_turn g.step.client) (steps_of g.id tale) =
    ap (λ (l : List target.Step). turns_for g.id g.step.client l) (sym same)
    ∙ sym (same_turns g.id g.step.client new tale.steps) in
    crossed_acts g.step.client (steps_of g.id tale) put ups.0 ups.1
    (at.1 ∙ ap (λ (s : acts.FileStep). Some s) (step_is at.0 g.step.client (Puts ups.0 true ups.1) at.2 ups.2))
    (subst (λ (ts : List Turn). IsCrossedAt ts put) turned g.crossed)

-- ---- at one put

pub some_gap : (ss : List target.Step) (put : ℕ) (s : target.Step) (id : List ℕ) → slice_get ss put ≡ Some s →
    uploaded_item s ≡ Some id → IsCrossedAt (turns_for id s.client ss) put → IsGapAt ss put
some_gap ss put s id here puts crossed =
    record { step = s; id = id; here = here; puts = puts; crossed = crossed }

pub gap_some : (ss : List target.Step) (put : ℕ) (s : target.Step) (id : List ℕ) → slice_get ss put ≡ Some s →
    uploaded_item s ≡ Some id → IsGapAt ss put → IsCrossedAt (turns_for id s.client ss) put
gap_some ss put s id here puts g =
    let same : g.step ≡ s = some_same g.step s (sym g.here ∙ here) in
    let named : g.id ≡ id =
    some_same g.id id (sym g.puts ∙ ap (λ (t : target.Step). uploaded_item t) same ∙ puts) in
    subst (λ (i : List ℕ). IsCrossedAt (turns_for i s.client ss) put) named
    (subst (λ (t : target.Step). IsCrossedAt (turns_for g.id t.client ss) put) same g.crossed)

pub no_gap : (ss : List target.Step) (put : ℕ) (s : target.Step) → slice_get ss put ≡ Some s →
    uploaded_item s ≡ None → ¬ IsGapAt ss put
no_gap ss put s here none g =
    let same : g.step ≡ s = some_same g.step s (sym g.here ∙ here) in
    no_some g.id (sym g.puts ∙ ap (λ (t : target.Step). uploaded_item t) same ∙ none)
  where
    no_some : (id : List ℕ) → ¬ (Some id ≡ None)
    no_some id e = cc

pub is_before : (steps : List RunStep) (put n : ℕ) → length steps ≤ n → IsGapAt (map history_step steps) put → put < n
is_before steps put n past g =
    let within = slice_get_within (map history_step steps) put g.step g.here in
    let long : length (map history_step steps) ≡ length steps = length-map steps history_step in
    omega (arith, within, long, past)
