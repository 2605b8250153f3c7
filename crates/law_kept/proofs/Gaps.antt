-- If no other put lands between a check and a put, then no client's check is crossed when it puts.
use Rattle.std.proofs.Common.{◌≡◌, ◌<◌, ◌∙◌, refl, ap, sym, subst, arith, inl, inr, ℕ, zero, suc, List, [], ◌∷◌, Bool, true, false, Option, Some, None}
use Rattle.std.specs.Prelude.{take, slice_get}
use Rattle.std.proofs.lemmas.Bool.{false≢true}
use Rattle.jop_base.proofs.KeyedLaws.{bytes_eq-refl, bytes_eq-other}
use Rattle.law_kept.specs.Acts.{Answer, Shown, Missing, Unknown, Act, Begins, Gets, Puts, Deletes, Changes, Ends, Elsewhere, FileStep, Version}
use Rattle.law_kept.specs.Gap.{is_touching, does, IsStillBetween, IsCrossed, NoOtherUploadBetween}
use Rattle.law_kept.specs.Own.{Unchecked, Read, ReadNothing, Wrote, OwnSession, Out, In, session_checked, check_of, check_put}
use Rattle.law_kept.specs.Standing.{Standing, Client, World, stands_beside, desk_after, opening_world, happened, world_from}
use Rattle.law_kept.proofs.Clients.{same_or_not, some_same}
use Rattle.law_kept.proofs.Places.{before_or_here, world_next}

-- ---- the words

-- the client's last call on the file was a get; whether another client's put landed since
pub record Checked (ss : List FileStep) (now : ℕ) (client : List ℕ) (crossed : Bool) : Type 0 where
  pub check : ℕ
  pub answer : Answer
  pub here : slice_get ss check ≡ Some (does client (Gets answer))
  pub before : check < now
  pub still : IsStillBetween ss client check now
  pub cross : crossed ≡ true → IsCrossed ss client check now

abbrev pub Since : List FileStep → ℕ → List ℕ → OwnSession → Bool → Type 0
Since ss now client Out crossed = Unit {0}
Since ss now client (In Unchecked) crossed = Unit {0}
Since ss now client (In (Read bytes)) crossed = Checked ss now client crossed
Since ss now client (In ReadNothing) crossed = Checked ss now client crossed
Since ss now client (In (Wrote bytes)) crossed = Unit {0}

-- a check that is read isn't crossed
abbrev pub IsUncrossed : OwnSession → Bool → Type 0
IsUncrossed Out crossed = Unit {0}
IsUncrossed (In Unchecked) crossed = Unit {0}
IsUncrossed (In (Read bytes)) crossed = crossed ≡ false
IsUncrossed (In ReadNothing) crossed = crossed ≡ false
IsUncrossed (In (Wrote bytes)) crossed = Unit {0}

-- so it is where a put lands
abbrev pub HasNoGap : OwnSession → Bool → Act → Type 0
HasNoGap session crossed (Puts bytes true heard) = IsUncrossed session crossed
HasNoGap session crossed act = Unit {0}

-- ---- one step more

later : (ss : List FileStep) (now : ℕ) (client : List ℕ) (check : ℕ)
    → IsCrossed ss client check now → IsCrossed ss client check (suc now)
later ss now client check c = record {
  place = c.place;
  other = c.other;
  bytes = c.bytes;
  heard = c.heard;
  here = c.here;
  apart = c.apart;
  after = c.after;
  before = (let b = c.before in omega arith);
}

still_next : (ss : List FileStep) (now : ℕ) (s : FileStep) (client : List ℕ) (check : ℕ)
    → slice_get ss now ≡ Some s → (s.client ≡ client → is_touching s.act ≡ false)
    → IsStillBetween ss client check now → IsStillBetween ss client check (suc now)
still_next ss now s client check here quiet still place t after before there by =
    elim (before_or_here place now before) [
      | inl b ↦ still place t after b there by
      | inr same ↦
          let at_now = subst (λ (k : ℕ). slice_get ss k ≡ Some t) same there in
          let is : s ≡ t = some_same s t (sym here ∙ at_now) in
          subst (λ (u : FileStep). is_touching u.act ≡ false) is
          (quiet (ap (λ (u : FileStep). u.client) is ∙ by))
    ]

checked_next : (ss : List FileStep) (now : ℕ) (s : FileStep) (client : List ℕ) (crossed : Bool)
    → slice_get ss now ≡ Some s → (s.client ≡ client → is_touching s.act ≡ false)
    → Checked ss now client crossed → Checked ss (suc now) client crossed
checked_next ss now s client crossed here quiet c = record {
  check = c.check;
  answer = c.answer;
  here = c.here;
  before = (let b = c.before in omega arith);
  still = still_next ss now s client c.check here quiet c.still;
  cross = λ k. later ss now client c.check (c.cross k);
}

-- another client's put lands now
crossed_next : (ss : List FileStep) (now : ℕ) (other client bytes : List ℕ) (heard crossed : Bool)
    → slice_get ss now ≡ Some (does other (Puts bytes true heard)) → ¬ (other ≡ client)
    → Checked ss now client crossed → Checked ss (suc now) client true
crossed_next ss now other client bytes heard crossed here differ c = record {
  check = c.check;
  answer = c.answer;
  here = c.here;
  before = (let b = c.before in omega arith);
  still = still_next ss now (does other (Puts bytes true heard)) client c.check here
      (λ same. absurd (differ same)) c.still;
  cross = λ k. record {
    place = now;
    other = other;
    bytes = bytes;
    heard = heard;
    here = here;
    apart = differ;
    after = c.before;
    before = omega arith;
  };
}

-- the client checks now
check_now : (ss : List FileStep) (now : ℕ) (client : List ℕ) (answer : Answer)
    → slice_get ss now ≡ Some (does client (Gets answer)) → Checked ss (suc now) client false
check_now ss now client answer here = record {
  check = now;
  answer = answer;
  here = here;
  before = omega arith;
  still = λ place s after before there by. absurd (omega arith);
  cross = λ k. absurd (false≢true k);
}

-- ---- sessions

since_same : (ss : List FileStep) (now : ℕ) (s : FileStep) (client : List ℕ) (session : OwnSession)
    (crossed : Bool)
    → slice_get ss now ≡ Some s → (s.client ≡ client → is_touching s.act ≡ false)
    → Since ss now client session crossed → Since ss (suc now) client session crossed
since_same ss now s client Out crossed here quiet since = tt
since_same ss now s client (In Unchecked) crossed here quiet since = tt
since_same ss now s client (In (Read bytes)) crossed here quiet since =
    checked_next ss now s client crossed here quiet since
since_same ss now s client (In ReadNothing) crossed here quiet since =
    checked_next ss now s client crossed here quiet since
since_same ss now s client (In (Wrote bytes)) crossed here quiet since = tt

since_put : (ss : List FileStep) (now : ℕ) (other client bytes : List ℕ) (heard : Bool)
    (session : OwnSession) (crossed : Bool)
    → slice_get ss now ≡ Some (does other (Puts bytes true heard)) → ¬ (other ≡ client)
    → Since ss now client session crossed → Since ss (suc now) client session true
since_put ss now other client bytes heard Out crossed here differ since = tt
since_put ss now other client bytes heard (In Unchecked) crossed here differ since = tt
since_put ss now other client bytes heard (In (Read found)) crossed here differ since =
    crossed_next ss now other client bytes heard crossed here differ since
since_put ss now other client bytes heard (In ReadNothing) crossed here differ since =
    crossed_next ss now other client bytes heard crossed here differ since
since_put ss now other client bytes heard (In (Wrote b)) crossed here differ since = tt

since_beside : (ss : List FileStep) (now : ℕ) (other client : List ℕ) (x : Act)
    (session : OwnSession) (s : Standing)
    → slice_get ss now ≡ Some (does other x) → ¬ (other ≡ client)
    → Since ss now client session s.crossed
    → Since ss (suc now) client session (stands_beside s x).crossed
since_beside ss now other client (Puts bytes true heard) session s here differ since =
    since_put ss now other client bytes heard session s.crossed here differ since
since_beside ss now other client (Puts bytes false heard) session s here differ since =
    since_same ss now (does other (Puts bytes false heard)) client session s.crossed here
    (λ same. absurd (differ same)) since
since_beside ss now other client (Deletes landed) session s here differ since =
    since_same ss now (does other (Deletes landed)) client session s.crossed here
    (λ same. absurd (differ same)) since
since_beside ss now other client (Changes change) session s here differ since =
    since_same ss now (does other (Changes change)) client session s.crossed here
    (λ same. absurd (differ same)) since
since_beside ss now other client Begins session s here differ since =
    since_same ss now (does other Begins) client session s.crossed here
    (λ same. absurd (differ same)) since
since_beside ss now other client (Gets answer) session s here differ since =
    since_same ss now (does other (Gets answer)) client session s.crossed here
    (λ same. absurd (differ same)) since
since_beside ss now other client Ends session s here differ since =
    since_same ss now (does other Ends) client session s.crossed here (λ same. absurd (differ same))
    since
since_beside ss now other client Elsewhere session s here differ since =
    since_same ss now (does other Elsewhere) client session s.crossed here
    (λ same. absurd (differ same)) since

since_got : (ss : List FileStep) (now : ℕ) (client : List ℕ) (answer : Answer)
    (session : OwnSession)
    → slice_get ss now ≡ Some (does client (Gets answer))
    → Since ss (suc now) client (session_checked session (check_of answer)) false
since_got ss now client answer Out here = tt
since_got ss now client (Shown bytes) (In old) here = check_now ss now client (Shown bytes) here
since_got ss now client Missing (In old) here = check_now ss now client Missing here
since_got ss now client Unknown (In old) here = tt

since_wrote : (ss : List FileStep) (now : ℕ) (client bytes : List ℕ) (heard : Bool)
    (session : OwnSession) (crossed : Bool)
    → Since ss now client (session_checked session (check_put bytes heard)) crossed
since_wrote ss now client bytes heard Out crossed = tt
since_wrote ss now client bytes true (In old) crossed = tt
since_wrote ss now client bytes false (In old) crossed = tt

since_none : (ss : List FileStep) (now : ℕ) (client : List ℕ) (session : OwnSession)
    (crossed : Bool)
    → Since ss now client (session_checked session Unchecked) crossed
since_none ss now client Out crossed = tt
since_none ss now client (In old) crossed = tt

since_own : (ss : List FileStep) (now : ℕ) (client : List ℕ) (file : Option Version) (d : Client)
    (x : Act)
    → slice_get ss now ≡ Some (does client x)
    → Since ss now client d.own.session d.stands.crossed
    → Since ss (suc now) client (desk_after file d x).own.session
    (desk_after file d x).stands.crossed
since_own ss now client file d Begins here since = tt
since_own ss now client file d (Gets answer) here since =
    since_got ss now client answer d.own.session here
since_own ss now client file d (Puts bytes landed heard) here since =
    since_wrote ss (suc now) client bytes heard d.own.session d.stands.crossed
since_own ss now client file d (Deletes landed) here since =
    since_none ss (suc now) client d.own.session d.stands.crossed
since_own ss now client file d (Changes change) here since =
    since_same ss now (does client (Changes change)) client d.own.session d.stands.crossed here
    (λ same. refl) since
since_own ss now client file d Ends here since = tt
since_own ss now client file d Elsewhere here since =
    since_same ss now (does client Elsewhere) client d.own.session d.stands.crossed here
    (λ same. refl) since

-- ---- all steps

abbrev SinceIn : List FileStep → ℕ → List ℕ → Client → Type 0
SinceIn ss now client d = Since ss now client d.own.session d.stands.crossed

since_step : (ss : List FileStep) (now : ℕ) (client : List ℕ) (w : World) (s : FileStep)
    → slice_get ss now ≡ Some s → SinceIn ss now client (w.at client)
    → SinceIn ss (suc now) client ((happened w s).at client)
since_step ss now client w s here since = elim (same_or_not s.client client) [
  | inl same ↦
      subst (λ (c : List ℕ). SinceIn ss (suc now) c ((happened w s).at c)) same
      (rw (bytes_eq-refl s.client)
      (since_own ss now s.client w.file (w.at s.client) s.act here
      (subst (λ (c : List ℕ). SinceIn ss now c (w.at c)) (sym same) since)))
  | inr differ ↦
      rw (bytes_eq-other s.client client differ)
      (since_beside ss now s.client client s.act (w.at client).own.session (w.at client).stands
      here differ since)
]

past_end : (ss : List FileStep) (place : ℕ) → slice_get ss place ≡ None
    → slice_get ss (suc place) ≡ None
past_end [] place past = refl
past_end (s ∷ ss) zero past = cc
past_end (s ∷ ss) (suc place) past = past_end ss place past

abbrev site_at : Option Version → List FileStep → ℕ → List ℕ → Client
site_at file ss place client = (world_from (opening_world file) (take place ss)).at client

since_next : (file : Option Version) (ss : List FileStep) (now : ℕ) (client : List ℕ) (s : FileStep)
    (t : Option FileStep)
    → ((u : FileStep) → slice_get ss now ≡ Some u → SinceIn ss now client
    (site_at file ss now client))
    → slice_get ss (suc now) ≡ Some s → slice_get ss now ≡ t
    → SinceIn ss (suc now) client (site_at file ss (suc now) client)
since_next file ss now client s None before here there =
    let none = past_end ss now there in
    let some : None ≡ Some s = sym none ∙ here in
    cc
since_next file ss now client s (Some t) before here there =
    subst (λ (w : World). SinceIn ss (suc now) client (w.at client))
    (sym (world_next (opening_world file) ss now t there))
    (since_step ss now client (world_from (opening_world file) (take now ss)) t there
    (before t there))

since : (file : Option Version) (ss : List FileStep) (now : ℕ) (client : List ℕ) (s : FileStep)
    → slice_get ss now ≡ Some s → SinceIn ss now client (site_at file ss now client)
unfolding world_from
since file ss zero client s here = tt
since file ss (suc now) client s here =
    since_next file ss now client s (slice_get ss now) (since file ss now client) here refl

uncrossed : (ss : List FileStep) (now : ℕ) (client bytes : List ℕ) (heard crossed : Bool)
    → slice_get ss now ≡ Some (does client (Puts bytes true heard)) → NoOtherUploadBetween ss
    → Checked ss now client crossed → crossed ≡ false
uncrossed ss now client bytes heard false here gapless c = refl
uncrossed ss now client bytes heard true here gapless c = absurd (gapless (record {
  client = client;
  check = c.check;
  put = now;
  answer = c.answer;
  bytes = bytes;
  heard = heard;
  checks = c.here;
  puts = here;
  still = c.still;
  crossed = c.cross refl;
}))

uncrossed_since : (ss : List FileStep) (now : ℕ) (client bytes : List ℕ) (heard : Bool)
    (session : OwnSession) (crossed : Bool)
    → slice_get ss now ≡ Some (does client (Puts bytes true heard)) → NoOtherUploadBetween ss
    → Since ss now client session crossed → IsUncrossed session crossed
uncrossed_since ss now client bytes heard Out crossed here gapless since = tt
uncrossed_since ss now client bytes heard (In Unchecked) crossed here gapless since = tt
uncrossed_since ss now client bytes heard (In (Read b)) crossed here gapless since =
    uncrossed ss now client bytes heard crossed here gapless since
uncrossed_since ss now client bytes heard (In ReadNothing) crossed here gapless since =
    uncrossed ss now client bytes heard crossed here gapless since
uncrossed_since ss now client bytes heard (In (Wrote b)) crossed here gapless since = tt

-- no client puts after a check that was crossed
pub no_gap_at : (file : Option Version) (ss : List FileStep) (now : ℕ) (client : List ℕ) (x : Act)
    → NoOtherUploadBetween ss → slice_get ss now ≡ Some (does client x)
    → HasNoGap (site_at file ss now client).own.session (site_at file ss now client).stands.crossed
    x
no_gap_at file ss now client (Puts bytes true heard) gapless here =
    let d : Client = site_at file ss now client in
    uncrossed_since ss now client bytes heard d.own.session d.stands.crossed here gapless
    (since file ss now client (does client (Puts bytes true heard)) here)
no_gap_at file ss now client (Puts bytes false heard) gapless here = tt
no_gap_at file ss now client (Deletes landed) gapless here = tt
no_gap_at file ss now client Begins gapless here = tt
no_gap_at file ss now client (Gets answer) gapless here = tt
no_gap_at file ss now client (Changes change) gapless here = tt
no_gap_at file ss now client Ends gapless here = tt
no_gap_at file ss now client Elsewhere gapless here = tt
