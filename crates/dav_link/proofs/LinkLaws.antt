-- A link that is read piece by piece.
use Rattle.std.proofs.Common.{◌≡◌, ◌≤◌, ◌<◌, ◌-◌, ◌∙◌, refl, sym, ap, arith, ℕ, List, [], ◌++◌, length, take, drop, append_assoc, append-nil, take-append-drop, length-append, length-take, Option, Some, None, Ok, Err, subst}
use Rattle.jop_outside.specs.Outside.{Reads, HasRisen}
use Rattle.jop_outside.specs.declared.failed.Failed.{Failed}
use Rattle.dav_link.specs.Links.{LinkNow, ReadsAlone, TakesBytes, IsAtEnd}
use Rattle.dav_link.specs.Receiving.{HasReadBytes, HasKept, HasEnough, LinkHasEnded, FailsReading}
use Rattle.dav_link.specs.declared.error.LinkErr.{LinkErr}
use Rattle.dav_link.specs.declared.error.LinkErr.TheVariants.{Fault, NoMemory, TooLong}

length-taken : (n : ℕ) (s : List ℕ) → n ≤ length s → length (take n s) ≡ n
length-taken n s h = simp length-take (omega arith)

-- ---- what was taken

pub TakesBytes-nil : (a : Option (List ℕ)) → TakesBytes a [] a
TakesBytes-nil None = refl
TakesBytes-nil (Some before) = (before, refl, refl)

pub TakesBytes-append : (a b c : Option (List ℕ)) (first second : List ℕ)
    → TakesBytes a first b → TakesBytes b second c → TakesBytes a (first ++ second) c
TakesBytes-append None None c first second h k = k
TakesBytes-append None (Some w) c first second h k = cc
TakesBytes-append (Some v) None c first second h k = cc
TakesBytes-append (Some v) (Some w) c first second h k =
    let same : w ≡ h.0 = cc in
    let joined = append_assoc first second k.0 in
    (k.0, cc (h.1, k.1), k.2)

TakesBytes-read : (a b : Option (List ℕ)) (into : List ℕ) (count : ℕ)
    → Reads a (Ok count) into b → TakesBytes a (take count into) b
TakesBytes-read None b into count h = h
TakesBytes-read (Some v) b into count h =
    let parts = take-append-drop count v in
    let given = h.given in
    (drop count v, cc, h.left)

TakesBytes-failed : (a b : Option (List ℕ)) (into : List ℕ) (e : Failed)
    → Reads a (Err e) into b → TakesBytes a [] b
TakesBytes-failed None b into e h = h
TakesBytes-failed (Some v) b into e h = (v, refl, h)

ended_at : (a b : Option (List ℕ)) (into : List ℕ)
    → 0 < length into → Reads a (Ok 0) into b → IsAtEnd b
ended_at None b into room h = let e : b ≡ None = h in subst IsAtEnd (sym e) tt
ended_at (Some v) b into room h =
    let none : v ≡ [] = h.ended room refl in
    let e : b ≡ Some [] = h.left ∙ ap (λ (l : List ℕ). Some (drop 0 l)) none in
    subst IsAtEnd (sym e) refl

-- ---- what was read

alone-append : (a b c : LinkNow) → ReadsAlone a b → ReadsAlone b c → ReadsAlone a c
alone-append a b c h k = record { written = k.written ∙ h.written; opened = k.opened ∙ h.opened }

pub HasReadBytes-append : (a b c : LinkNow) (first second : List ℕ)
    → HasReadBytes a first b → HasReadBytes b second c → HasReadBytes a (first ++ second) c
HasReadBytes-append a b c first second h k = record {
  left = TakesBytes-append a.left b.left c.left first second h.left k.left;
  alone = alone-append a b c h.alone k.alone;
}

pub HasReadBytes-nil : (a : LinkNow) → HasReadBytes a [] a
HasReadBytes-nil a =
    record { left = TakesBytes-nil a.left; alone = record { written = refl; opened = refl } }

pub kept_nothing : (a : LinkNow) (kept : List ℕ) → HasKept a kept a kept []
kept_nothing a kept =
    record { kept = sym (append-nil kept); read = HasReadBytes-nil a; stays = refl }

pub kept_more : (a b c : LinkNow) (before mid after first second : List ℕ)
    → HasKept a before b mid first → HasKept b mid c after second
    → HasKept a before c after (first ++ second)
kept_more a b c before mid after first second h k = record {
  kept = let joined = append_assoc before first second in cc (h.kept, k.kept);
  read = HasReadBytes-append a b c first second h.read k.read;
  stays = k.stays ∙ h.stays;
}

-- what was kept first makes no difference to why reading on failed
pub fails_later : (a b c : LinkNow) (before mid bytes : List ℕ) (error : LinkErr)
    → HasKept a before b mid bytes → FailsReading error b c → FailsReading error a c
fails_later a b c before mid bytes Fault h k = record {
  bytes = bytes ++ k.bytes;
  read = HasReadBytes-append a b c bytes k.bytes h.read k.read;
  rose = let rose = k.rose in let same = h.stays in omega arith;
}
fails_later a b c before mid bytes NoMemory h k = record {
  bytes = bytes ++ k.bytes;
  read = HasReadBytes-append a b c bytes k.bytes h.read k.read;
  stays = k.stays ∙ h.stays;
}
fails_later a b c before mid bytes TooLong h k = absurd k

-- ---- one read

pub read_piece : (a b : LinkNow) (into : List ℕ) (count : ℕ)
    → Reads a.left (Ok count) into b.left → ReadsAlone a b → HasReadBytes a (take count into) b
read_piece a b into count reads alone =
    record { left = TakesBytes-read a.left b.left into count reads; alone = alone }

pub read_failed : (a b : LinkNow) (into : List ℕ) (e : Failed)
    → Reads a.left (Err e) into b.left → ReadsAlone a b
    → HasRisen a.faults b.faults → FailsReading Fault a b
read_failed a b into e reads alone rose = record {
  bytes = [];
  read = record { left = TakesBytes-failed a.left b.left into e reads; alone = alone };
  rose = rose;
}

pub read_end : (a b : LinkNow) (into : List ℕ)
    → 0 < length into → Reads a.left (Ok 0) into b.left → IsAtEnd b.left
read_end a b into room reads = ended_at a.left b.left into room reads

-- ---- reading on

-- some bytes are kept, and so many are missing
pub record IsAt (old : LinkNow) (before : List ℕ) (count : ℕ) (new : LinkNow) (after : List ℕ)
    (missing : ℕ) : Type 0 where
  pub bytes : List ℕ
  pub kept : HasKept old before new after bytes
  pub lacks : missing ≡ count - length bytes

pub at_start : (old : LinkNow) (before : List ℕ) (count : ℕ) → IsAt old before count old before count
at_start old before count = record {
  bytes = [];
  kept = kept_nothing old before;
  lacks = omega arith;
}

pub at_piece : (old mid new : LinkNow) (before kept after into : List ℕ) (count missing taken : ℕ)
    → IsAt old before count mid kept missing
    → Reads mid.left (Ok taken) into new.left → ReadsAlone mid new → new.faults ≡ mid.faults
    → after ≡ kept ++ take taken into → taken ≤ length into
    → IsAt old before count new after (missing - taken)
at_piece old mid new before kept after into count missing taken at reads alone stays joined fits =
    let piece = take taken into in
    let long : length piece ≡ taken = length-taken taken into fits in
    record {
      bytes = at.bytes ++ piece;
      kept = kept_more old mid new before kept after at.bytes piece at.kept
          (record { kept = joined; read = read_piece mid new into taken reads alone; stays = stays });
      lacks = simp length-append (omega (arith, at.lacks, long));
    }

pub at_failed : (old mid new : LinkNow) (before kept into : List ℕ) (count missing : ℕ) (e : Failed)
    → IsAt old before count mid kept missing
    → Reads mid.left (Err e) into new.left → ReadsAlone mid new
    → HasRisen mid.faults new.faults → FailsReading Fault old new
at_failed old mid new before kept into count missing e at reads alone rose =
    fails_later old mid new before kept at.bytes Fault at.kept
    (read_failed mid new into e reads alone rose)

pub at_full : (old mid new : LinkNow) (before kept into : List ℕ) (count missing taken : ℕ)
    → IsAt old before count mid kept missing
    → Reads mid.left (Ok taken) into new.left → ReadsAlone mid new → new.faults ≡ mid.faults
    → FailsReading NoMemory old new
at_full old mid new before kept into count missing taken at reads alone stays =
    fails_later old mid new before kept at.bytes NoMemory at.kept (record {
      bytes = take taken into;
      read = read_piece mid new into taken reads alone;
      stays = stays;
    })

pub at_end : (old mid new : LinkNow) (before kept into : List ℕ) (count missing : ℕ)
    → IsAt old before count mid kept missing → 0 < missing → 0 < length into
    → Reads mid.left (Ok 0) into new.left → ReadsAlone mid new → new.faults ≡ mid.faults
    → LinkHasEnded old before count new kept
at_end old mid new before kept into count missing at some room reads alone stays =
    let none : kept ≡ kept ++ take 0 into = sym (append-nil kept) in
    record {
      bytes = at.bytes ++ take 0 into;
      kept = kept_more old mid new before kept kept at.bytes (take 0 into) at.kept
          (record { kept = none; read = read_piece mid new into 0 reads alone; stays = stays });
      short = let empty : length (take 0 into) ≡ 0 = simp length-take (omega arith) in
          simp length-append (omega (arith, at.lacks, some, empty));
      ended = read_end mid new into room reads;
    }

pub at_enough : (old new : LinkNow) (before kept : List ℕ) (count missing : ℕ)
    → IsAt old before count new kept missing → missing ≤ 0 → HasEnough old before count new kept
at_enough old new before kept count missing at none = record {
  bytes = at.bytes;
  kept = at.kept;
  enough = omega (arith, at.lacks, none);
}
