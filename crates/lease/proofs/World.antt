-- A history as the run of a machine, whose state is the tree, the moment, and each client's session
-- and how many it began.
use Rattle.std.proofs.Common.{◌≡◌, ◌≤◌, ◌+◌, ◌⊎◌, ◌∙◌, refl, sym, arith, inl, inr, add_assoc, ℕ, List, [], ◌∷◌, ◌++◌, Bool, true, false, cond, Option, Some, None}
use Rattle.std.specs.Prelude.{bytes_eq, count_by, if◌then◌else◌}
use Rattle.std.proofs.lemmas.Bool.{and_from, and_parts, false≢true}
use Rattle.std.proofs.lemmas.List.Sums.{sum_by-append}
use Rattle.std.proofs.lemmas.Slice.Eq.{bytes_eq-Decides}
use Rattle.jop_base.specs.declared.lock_name.LockKind.{LockKind}
use Rattle.jop_target.specs.History.{Happening, Begins, Answered, Unheard, Step, IsHonestReply, IsHonestFrom, landed_call, tree_with, noted, part_of}
use Rattle.jop_target.specs.Runs.{is_failed}
use Rattle.jop_target.specs.Store.{reply_of}
use Rattle.jop_target.specs.declared.call.Call.{Call}
use Rattle.jop_target.specs.declared.event.Event.{Event}
use Rattle.jop_target.specs.declared.event.Event.TheVariants.{Began, Sent, Called, Made}
use Rattle.jop_target.specs.declared.reply.Reply.{Reply}
use Rattle.jop_target.specs.declared.reply.Reply.TheVariants.{Failed}
use Rattle.jop_target.specs.declared.tree.File.{File}
use Rattle.jop_target.specs.declared.tree.Tree.{Tree}
use Rattle.lease.specs.Discipline.{Session, begun, outside, session_after, session_from, lawful_from, keeps_lock_order, renews_in_time}
use Rattle.lease.specs.Exclusion.{is_began}
use Rattle.lease.specs.Phase.{Phase, Free, Over, Broken, role_of, allows, heard}
use Rattle.lease.proofs.LockFiles.{own_lock}
use Rattle.lease.proofs.Moves.{Move, Leaves, Stays, answered_move}
use Rattle.lease.proofs.Touched.{others_kept}
use Rattle.lease.proofs.Sessions.{session_from-append}

pub record World : Type 0 where
  pub tree : Tree
  pub now : ℕ
  pub at : List ℕ → Session
  pub count : List ℕ → ℕ

abbrev pub opening : Tree → World
opening tree = record { tree = tree; now = 0; at = λ client. outside; count = λ client. 0 }

abbrev pub happens : World → Step → World
happens w s = record {
  tree = tree_with w.tree s.moment (landed_call s.happens);
  now = s.moment;
  at =
      λ client. if bytes_eq s.client client then session_from client (w.at client) (noted s.happens)
      else w.at client;
  count =
      λ client. if bytes_eq s.client client then w.count client + count_by is_began
      (noted s.happens) else w.count client;
}

abbrev pub run : World → List Step → World
run w [] = w
run w (s ∷ ss) = run (happens w s) ss

-- a step that an honest store allows and in which its client keeps the discipline
pub record Allows (w : World) (s : Step) : Type 0 where
  pub later : w.now ≤ s.moment
  pub honest : IsHonestReply w.tree s.moment s.happens
  pub lawful : lawful_from s.client (w.at s.client) (noted s.happens) ≡ true

abbrev pub AllowsAll : World → List Step → Type 0
AllowsAll w [] = Unit {0}
AllowsAll w (s ∷ ss) = Allows w s × AllowsAll (happens w s) ss

-- ---- the monitor over parts

-- what was unlawful stays so
pub lawful_so_far : (client : List ℕ) (s : Session) (es : List Event) →
    lawful_from client s es ≡ true → s.lawful ≡ true
unfolding lawful_from
lawful_so_far client s [] h = h
lawful_so_far client s (Began ∷ es) h = (and_parts s.lawful (lawful_from client begun es) h).0
lawful_so_far client s (Made n ∷ es) h = lawful_so_far client s es h
lawful_so_far client s (e ∷ es) h =
    (and_parts _ _ (lawful_so_far client (session_after client s e) es h)).0

lawful_from-append : (client : List ℕ) (s : Session) (es fs : List Event) →
    lawful_from client s (es ++ fs) ≡ true →
    (lawful_from client s es ≡ true) × (lawful_from client (session_from client s es) fs ≡ true)
unfolding session_from lawful_from
lawful_from-append client s [] fs h = (lawful_so_far client s fs h, h)
lawful_from-append client s (Began ∷ es) fs h =
    let parts = and_parts s.lawful (lawful_from client begun (es ++ fs)) h in
    let rest = lawful_from-append client begun es fs parts.1 in
    (and_from s.lawful (lawful_from client begun es) parts.0 rest.0, rest.1)
lawful_from-append client s (e ∷ es) fs h =
    lawful_from-append client (session_after client s e) es fs h

-- ---- the run and the parts

-- the machine sees of a client what its part shows
pub at-run : (client : List ℕ) (w : World) (ss : List Step) →
    (run w ss).at client ≡ session_from client (w.at client) (part_of client ss)
at-run client w [] = unfold session_from in refl
at-run client w (s ∷ ss) = at-run client (happens w s) ss ∙ go (bytes_eq s.client client)
  where
    go : (b : Bool) → session_from client (cond b (session_from client (w.at client)
        (noted s.happens)) (w.at client)) (part_of client ss) ≡ session_from client (w.at client)
        (cond b (noted s.happens ++ part_of client ss) (part_of client ss))
    go true = sym (session_from-append client (w.at client) (noted s.happens) (part_of client ss))
    go false = refl

pub count-run : (client : List ℕ) (w : World) (ss : List Step) →
    (run w ss).count client ≡ w.count client + count_by is_began (part_of client ss)
count-run client w [] = omega arith
count-run client w (s ∷ ss) = count-run client (happens w s) ss ∙ go (bytes_eq s.client client)
  where
    go : (b : Bool) → cond b (w.count client + count_by is_began (noted s.happens))
        (w.count client) + count_by is_began (part_of client ss) ≡ w.count client + count_by
        is_began (cond b (noted s.happens ++ part_of client ss) (part_of client ss))
    go true =
        let h : count_by is_began (noted s.happens ++ part_of client ss) ≡ count_by is_began
        (noted s.happens) + count_by is_began (part_of client ss) = sum_by-append
        (λ (e : Event). cond (is_began e) 1 0) (noted s.happens) (part_of client ss) in
        rw h (add_assoc (w.count client) (count_by is_began (noted s.happens))
        (count_by is_began (part_of client ss)))
    go false = refl

itself : (c : List ℕ) → bytes_eq c c ≡ true
itself c = (bytes_eq-Decides c c).1 refl

-- an honest history in which all clients keep their locks is a run of allowed steps
pub allows_all : (w : World) (ss : List Step) → IsHonestFrom w.tree w.now ss →
    ((client : List ℕ) → lawful_from client (w.at client) (part_of client ss) ≡ true) →
    AllowsAll w ss
allows_all w [] h o = tt
allows_all w (s ∷ ss) h o = (
  record {
    later = h.0;
    honest = h.1;
    lawful = first (bytes_eq s.client s.client) (itself s.client)
        (o s.client);
  },
  allows_all (happens w s) ss h.2 (λ client. rest client (bytes_eq s.client client) (o client)),
)
  where
    first : (b : Bool) → b ≡ true → lawful_from s.client (w.at s.client)
        (cond b (noted s.happens ++ part_of s.client ss) (part_of s.client ss)) ≡ true →
        lawful_from s.client (w.at s.client) (noted s.happens) ≡ true
    first true e h =
        (lawful_from-append s.client (w.at s.client) (noted s.happens) (part_of s.client ss) h).0
    first false e h = absurd (false≢true e)

    rest : (client : List ℕ) (b : Bool) → lawful_from client (w.at client)
        (cond b (noted s.happens ++ part_of client ss) (part_of client ss)) ≡ true →
        lawful_from client (cond b (session_from client (w.at client) (noted s.happens))
        (w.at client)) (part_of client ss) ≡ true
    rest client true h =
        (lawful_from-append client (w.at client) (noted s.happens) (part_of client ss) h).1
    rest client false h = h

-- ---- one step

-- the client of a step begins a session, or makes a move within one
abbrev pub Turn : List ℕ → ℕ → List File → List File → Phase → Phase → ℕ → Type 0
Turn client moment old new before after begins =
    ((after ≡ Free) × (begins ≡ 1)) ⊎ Move client moment old new before after

honest_reply : (tree : Tree) (moment : ℕ) (call : Call) (reply : Reply) (landed : Bool) →
    is_failed reply ≡ false → IsHonestReply tree moment (Answered call reply landed) →
    (landed ≡ true) × ((now : ℕ) × (now ≤ moment) × (reply ≡ reply_of tree now call))
honest_reply tree moment call Failed landed f h = absurd (false≢true (sym f))
honest_reply tree moment call reply landed f h = h

failed_heard : (client : List ℕ) (phase : Phase) (call : Call) (reply : Reply) →
    is_failed reply ≡ true → heard client phase (role_of client call) reply ≡ Over
failed_heard client phase call Failed f = refl
failed_heard client phase call reply f = cc

called_move : (client : List ℕ) (moment : ℕ) (tree : Tree) (phase : Phase) (call : Call)
    (reply : Reply) (landed failed : Bool) → is_failed reply ≡ failed →
    allows client phase (role_of client call) ≡ true →
    IsHonestReply tree moment (Answered call reply landed) →
    Move client moment tree.files (tree_with tree moment
    (landed_call (Answered call reply landed))).files phase
    (heard client phase (role_of client call) reply)
called_move client moment tree phase call reply landed true f a h =
    Leaves (rw (failed_heard client phase call reply f) refl)
called_move client moment tree phase call reply landed false f a h =
    let k = honest_reply tree moment call reply landed f h in
    rw (k.0) (answered_move client k.1.0 moment tree phase call reply k.1.1 a f k.1.2)

sound_allows : (t : Bool) (p : Phase) → keeps_lock_order (cond t p Broken) ≡ true → t ≡ true
sound_allows true p h = refl
sound_allows false p h = h

-- a lawful call was one that the phase allows
called_allowed : (client : List ℕ) (s : Session) (call : Call) (reply : Reply) →
    lawful_from client s (Called call reply ∷ []) ≡ true →
    allows client s.phase (role_of client call) ≡ true
unfolding lawful_from
called_allowed client s call reply h =
    sound_allows (allows client s.phase (role_of client call))
    (heard client s.phase (role_of client call) reply)
    (and_parts (renews_in_time s.phase s.now (role_of client call)) _
    (and_parts s.running _ (and_parts s.lawful _ h).1).1).1

unheard_allowed : (client : List ℕ) (s : Session) (call : Call) →
    lawful_from client s (Sent call ∷ []) ≡ true →
    allows client s.phase (role_of client call) ≡ true
unfolding lawful_from
unheard_allowed client s call h =
    sound_allows (allows client s.phase (role_of client call)) Over
    (and_parts (renews_in_time s.phase s.now (role_of client call)) _
    (and_parts s.running _ (and_parts s.lawful _ h).1).1).1

pub landed_allowed : (client : List ℕ) (s : Session) (x : Happening) (call : Call) →
    lawful_from client s (noted x) ≡ true → landed_call x ≡ Some call →
    allows client s.phase (role_of client call) ≡ true
landed_allowed client s (Answered c reply true) call l e =
    let same : c ≡ call = cc in rw (← same) (called_allowed client s c reply l)
landed_allowed client s (Unheard c true) call l e =
    let same : c ≡ call = cc in rw (← same) (unheard_allowed client s c l)
landed_allowed client s x call l e = cc

pub turn : (client : List ℕ) (moment : ℕ) (tree : Tree) (s : Session) (x : Happening) →
    IsHonestReply tree moment x → lawful_from client s (noted x) ≡ true →
    Turn client moment tree.files (tree_with tree moment (landed_call x)).files s.phase
    (session_from client s (noted x)).phase (count_by is_began (noted x))
unfolding session_from
turn client moment tree s Begins h l = inl (refl, refl)
turn client moment tree s (Answered call reply landed) h l =
    let a = called_allowed client s call reply l in
    inr (rw a (called_move client moment tree s.phase call reply landed (is_failed reply) refl a h))
turn client moment tree s (Unheard call landed) h l =
    inr (Leaves (rw (unheard_allowed client s call l) refl))
turn client moment tree s x h l = inr (Stays refl (λ k. refl))

-- the locks of the other clients stand as they stood
pub untouched : (client other : List ℕ) (kind : LockKind) (moment : ℕ) (tree : Tree) (s : Session)
    (x : Happening) (o : Option Call) → ¬ (client ≡ other) → lawful_from client s (noted x) ≡ true →
    landed_call x ≡ o → own_lock (tree_with tree moment o).files kind other ≡ own_lock tree.files
    kind other
untouched client other kind moment tree s x None n l e = refl
untouched client other kind moment tree s x (Some call) n l e =
    others_kept client other kind s.phase tree moment call n (landed_allowed client s x call l e)
