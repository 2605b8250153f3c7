-- What each line, and each part of one, makes of a reader.
use Rattle.std.proofs.Common.{◌≡◌, ℕ, ◌+◌, ◌<◌, ◌≤◌, List, [], ◌∷◌, ◌++◌, length, false, Some, None, refl, sym, ap, subst, ◌∙◌, arith, append_assoc, append-nil}
use Rattle.std.proofs.lemmas.List.{length-append}
use Rattle.jop_base.specs.declared.dir.Dir.{Dir}
use Rattle.jop_target.specs.declared.reply.Entry.{Entry}
use Rattle.dav_parts.specs.Multistatus.{folder_lines, IsLineOf, ReadsLines, ReadsMultistatus}
use Rattle.reply_reader.specs.Layouts.{HasNoFront, HasReadLayout, IsFront, IsHalfLine, LineSays, ReadsFrom, ReadsFurther, TakesLines, has_feed}
use Rattle.reply_reader.specs.declared.layout_reader.LayoutReader.{LayoutReader}
use Rattle.reply_reader.specs.declared.layout_reader.Place.{Place}
use Rattle.reply_reader.specs.declared.layout_reader.Place.TheVariants.{Front, Files, Ended, Lost}
use Rattle.reply_reader.specs.declared.line.Line.{Line}
use Rattle.reply_reader.specs.declared.line.Line.TheVariants.{File, Last, Other}
use Rattle.reply_reader.proofs.LineFeeds.{none_feeds}
use Rattle.reply_reader.proofs.FileLines.{file_forth, is_here, last_forth, long_forth, other_forth, part_no_end}
use Rattle.reply_reader.proofs.Fronts.{front_alone, front_goes_on, long_no_front, part_no_front}

-- ---- more of a body

pub stepped : (r s : LayoutReader) (came done : List ℕ) → HasReadLayout r done
    → ReadsFurther r s came → HasReadLayout s (done ++ came)
stepped r s came done at step = record {
  sound = λ rest more h.
      let old = step.back rest more
      (subst (λ (d : Dir). ReadsFrom s.place d s.before (s.line ++ rest) more) step.dir h) in
      let read : ReadsMultistatus r.dir (r.entries ++ old.0) (done ++ (came ++ rest)) =
      at.sound (came ++ rest) old.0 old.2 in
      subst (λ (d : Dir). ReadsMultistatus d (s.entries ++ more) ((done ++ came) ++ rest))
      (sym step.dir)
      (subst (λ (es : List Entry). ReadsMultistatus r.dir es ((done ++ came) ++ rest)) old.1
      (subst (λ (t : List ℕ). ReadsMultistatus r.dir (r.entries ++ old.0) t)
      (sym (append_assoc done came rest)) read));
  only = λ rest all h.
      let here : ReadsMultistatus r.dir all (done ++ (came ++ rest)) =
      subst (λ (d : Dir). ReadsMultistatus d all (done ++ (came ++ rest))) step.dir
      (subst (λ (t : List ℕ). ReadsMultistatus s.dir all t) (append_assoc done came rest) h) in
      let old = at.only (came ++ rest) all here in
      let new = step.forth rest old.0 old.2 in (
        new.0,
        old.1 ∙ new.1,
        subst (λ (d : Dir). ReadsFrom s.place d s.before (s.line ++ rest) new.0) (sym step.dir)
            new.2,
      );
  half = subst (λ (d : Dir). IsHalfLine s.place d s.line) (sym step.dir) step.half;
}

-- what only joins the line
joins : (r : LayoutReader) (came line : List ℕ) → line ≡ r.line ++ came
    → IsHalfLine r.place r.dir (r.line ++ came) → ReadsFurther r (record r { line = line }) came
joins r came line is half = subst (λ (t : List ℕ). ReadsFurther r (record r { line = t }) came)
    (sym is) (record {
      dir = refl;
      back = λ rest more h. (
        more,
        refl,
        subst (λ (t : List ℕ). ReadsFrom r.place r.dir r.before t more)
            (append_assoc r.line came rest) h,
      );
      forth = λ rest old h. (
        old,
        refl,
        subst (λ (t : List ℕ). ReadsFrom r.place r.dir r.before t old)
            (sym (append_assoc r.line came rest)) h,
      );
      half = half;
    })

-- nothing came
pub same_step : (r : LayoutReader) (came : List ℕ) → came ≡ [] → IsHalfLine r.place r.dir r.line
    → ReadsFurther r r came
same_step r came nothing half = subst (λ (t : List ℕ). ReadsFurther r r t) (sym nothing) (record {
  dir = refl;
  back = λ rest more h. (more, refl, h);
  forth = λ rest old h. (old, refl, h);
  half = half;
})

-- ---- the lines of the folder itself

module _ (r : LayoutReader) (came part : List ℕ) (place : r.place ≡ Front)
    (is : came ≡ part ++ 10 ∷ []) (feeds : has_feed part ≡ false)
    (half : IsHalfLine r.place r.dir r.line) where
  no_front : HasNoFront r.dir r.line
  no_front = (subst (λ (p : Place). IsHalfLine p r.dir r.line) place half).0

  -- they aren't complete
  pub front_joins : (line text : List ℕ) → line ≡ r.line ++ came → text ≡ line
      → IsFront r.dir text Front → ReadsFurther r (record r { line = line }) came
  front_joins line text e same front =
      joins r came line e (subst (λ (p : Place). IsHalfLine p r.dir (r.line ++ came)) (sym place)
      (subst (λ (t : List ℕ). IsFront r.dir t Front) (same ∙ e) front))

  -- they are
  front_step : (more : List ℕ) → r.line ++ came ≡ folder_lines r.dir more
      → ReadsFurther r (record r { place = Files; line = []; before = None }) came
  front_step more e =
      let whole : r.line ++ (part ++ 10 ∷ []) ≡ folder_lines r.dir more =
      ap (λ (t : List ℕ). r.line ++ t) (sym is) ∙ e in
      let text : (rest : List ℕ) → r.line ++ (came ++ rest) ≡ folder_lines r.dir rest = λ rest.
      ap (λ (t : List ℕ). r.line ++ (t ++ rest)) is
      ∙ front_goes_on r.dir r.line part rest more no_front feeds whole in
      record {
        dir = refl;
        back = λ rest old h. (
          old,
          refl,
          subst (λ (p : Place). ReadsFrom p r.dir r.before (r.line ++ (came ++ rest)) old)
              (sym place) (rest, text rest, h),
        );
        forth = λ rest old h.
            let read : ReadsMultistatus r.dir old (r.line ++ (came ++ rest)) =
            subst (λ (p : Place). ReadsFrom p r.dir r.before (r.line ++ (came ++ rest)) old) place
            h in (
              old,
              refl,
              subst (λ (t : List ℕ). ReadsLines r.dir None old t)
                  (front_alone r.dir read.0 rest (sym read.1 ∙ text rest)) read.2,
            );
        half = (refl, omega arith);
      }

  -- they never will be
  front_lost : HasNoFront r.dir (r.line ++ came) → 512 ≤ length (r.line ++ came)
      → ReadsFurther r (record r { place = Lost; line = []; before = None }) came
  front_lost begins_not long = record {
    dir = refl;
    back = λ rest old h. absurd h;
    forth = λ rest old h.
        let read : ReadsMultistatus r.dir old (r.line ++ (came ++ rest)) =
        subst (λ (p : Place). ReadsFrom p r.dir r.before (r.line ++ (came ++ rest)) old) place h in
        absurd (long_no_front r.dir (r.line ++ came) rest begins_not long read.0
        (append_assoc r.line came rest ∙ read.1));
    half = refl;
  }

  front_goes_to : (next : Place) → IsFront r.dir (r.line ++ came) next → (next ≡ Front → ⊥)
      → ReadsFurther r (record r { place = next; line = []; before = None }) came
  front_goes_to Front front not = absurd (not refl)
  front_goes_to Files front not = front_step front.0 front.1
  front_goes_to Ended front not = absurd front
  front_goes_to Lost front not = front_lost front.0 front.1

  pub front_goes : (line text empty : List ℕ) (next : Place) → line ≡ r.line ++ came → text ≡ line
      → empty ≡ [] → IsFront r.dir text next → (next ≡ Front → ⊥)
      → ReadsFurther r (record r { place = next; line = empty; before = None }) came
  front_goes line text empty next e same nothing front not =
      subst (λ (t : List ℕ). ReadsFurther r (record r { place = next; line = t; before = None }) came)
      (sym nothing)
      (front_goes_to next (subst (λ (t : List ℕ). IsFront r.dir t next) (same ∙ e) front) not)

-- ---- the line of a file, of which nothing is kept

module _ (r : LayoutReader) (line part : List ℕ) (place : r.place ≡ Files) (empty : r.line ≡ [])
    (is : line ≡ part ++ 10 ∷ []) (feeds : has_feed part ≡ false) where
  line_text : (rest : List ℕ) → r.line ++ (line ++ rest) ≡ part ++ 10 ∷ rest
  line_text rest = ap (λ (t : List ℕ). t ++ (line ++ rest)) empty ∙ ap (λ (t : List ℕ). t ++ rest) is
      ∙ append_assoc part (10 ∷ []) rest

  rest_text : (rest : List ℕ) → r.line ++ rest ≡ rest
  rest_text rest = ap (λ (t : List ℕ). t ++ rest) empty

  read_here : (rest : List ℕ) (old : List Entry)
      → ReadsFrom r.place r.dir r.before (r.line ++ (line ++ rest)) old
      → ReadsLines r.dir r.before old (part ++ 10 ∷ rest)
  read_here rest old h = subst (λ (t : List ℕ). ReadsLines r.dir r.before old t) (line_text rest)
      (subst (λ (p : Place). ReadsFrom p r.dir r.before (r.line ++ (line ++ rest)) old) place h)

  from_here : (rest : List ℕ) (old : List Entry)
      → ReadsLines r.dir r.before old (part ++ 10 ∷ rest)
      → ReadsFrom r.place r.dir r.before (r.line ++ (line ++ rest)) old
  from_here rest old h =
      subst (λ (p : Place). ReadsFrom p r.dir r.before (r.line ++ (line ++ rest)) old) (sym place)
      (subst (λ (t : List ℕ). ReadsLines r.dir r.before old t) (sym (line_text rest)) h)

  stays_half : IsHalfLine r.place r.dir r.line
  stays_half = subst (λ (p : Place). IsHalfLine p r.dir r.line) (sym place)
      (subst (λ (t : List ℕ). (has_feed t ≡ false) × (length t < 512)) (sym empty)
      (refl, omega arith))

  file_step : (entry : Entry) → LineSays r.dir r.before line (File entry)
      → ReadsFurther r (record r { entries = r.entries ++ entry ∷ []; before = Some entry }) line
  file_step entry says =
      let here : IsLineOf r.dir entry (part ++ 10 ∷ []) says.0.0 =
      subst (λ (t : List ℕ). IsLineOf r.dir entry t says.0.0) is says.0.1 in
      let alone = (is_here r.dir r.before part feeds entry [] says.0.0 here).1 in
      record {
        dir = refl;
        back = λ rest more h.
            let files : ReadsLines r.dir (Some entry) more rest =
            subst (λ (t : List ℕ). ReadsLines r.dir (Some entry) more t) (rest_text rest)
            (subst (λ (p : Place). ReadsFrom p r.dir (Some entry) (r.line ++ rest) more) place h) in (
              entry ∷ more,
              sym (append_assoc r.entries (entry ∷ []) more),
              from_here rest (entry ∷ more) (rest, alone rest, says.1, files),
            );
        forth = λ rest old h.
            let cut = file_forth r.dir r.before part feeds entry rest old alone
            (λ last. says.2 (is ∙ last)) (read_here rest old h) in (
              cut.0,
              ap (λ (es : List Entry). r.entries ++ es) cut.1
                  ∙ sym (append_assoc r.entries (entry ∷ []) cut.0),
              subst (λ (p : Place). ReadsFrom p r.dir (Some entry) (r.line ++ rest) cut.0)
                  (sym place)
                  (subst (λ (t : List ℕ). ReadsLines r.dir (Some entry) cut.0 t)
                  (sym (rest_text rest)) cut.2),
            );
        half = stays_half;
      }

  last_step : LineSays r.dir r.before line Last → ReadsFurther r (record r { place = Ended }) line
  last_step says = record {
    dir = refl;
    back = λ rest more h. (
      [],
      ap (λ (es : List Entry). r.entries ++ es) (sym h.0),
      from_here rest []
          (ap (λ (t : List ℕ). part ++ 10 ∷ t) (sym (rest_text rest) ∙ h.1) ∙ sym is ∙ says),
    );
    forth = λ rest old h.
        let cut = last_forth r.dir r.before part feeds rest old (sym is ∙ says)
        (read_here rest old h) in
        ([], ap (λ (es : List Entry). r.entries ++ es) cut.0, (refl, rest_text rest ∙ cut.1));
    half = empty;
  }

  other_step : LineSays r.dir r.before line Other → ReadsFurther r (record r { place = Lost }) line
  other_step says = record {
    dir = refl;
    back = λ rest more h. absurd h;
    forth = λ rest old h.
        absurd (other_forth r.dir r.before part feeds rest old (λ last. says.0 (is ∙ last))
        (λ entry further here follows.
        says.1 entry further (subst (λ (t : List ℕ). IsLineOf r.dir entry t further) (sym is) here)
        follows)
        (read_here rest old h));
    half = empty;
  }

  module _ (s : LayoutReader) (what : Line) (says : LineSays r.dir r.before line what) where
    pub line_filed : (entry : Entry) → what ≡ File entry
        → s ≡ record r { entries = r.entries ++ entry ∷ []; before = Some entry }
        → ReadsFurther r s line
    line_filed entry file made = subst (λ (x : LayoutReader). ReadsFurther r x line) (sym made)
        (file_step entry (subst (λ (l : Line). LineSays r.dir r.before line l) file says))

    pub line_last : what ≡ Last → s ≡ record r { place = Ended } → ReadsFurther r s line
    line_last last made = subst (λ (x : LayoutReader). ReadsFurther r x line) (sym made)
        (last_step (subst (λ (l : Line). LineSays r.dir r.before line l) last says))

    pub line_lost : what ≡ Other → s ≡ record r { place = Lost } → ReadsFurther r s line
    line_lost other made = subst (λ (x : LayoutReader). ReadsFurther r x line) (sym made)
        (other_step (subst (λ (l : Line). LineSays r.dir r.before line l) other says))

-- its first part was kept
pub from_kept : (r s : LayoutReader) (came : List ℕ)
    → ReadsFurther (record r { line = [] }) s (r.line ++ came) → ReadsFurther r s came
from_kept r s came step = record {
  dir = step.dir;
  back = λ rest more h.
      let old = step.back rest more h in (
        old.0,
        old.1,
        subst (λ (t : List ℕ). ReadsFrom r.place r.dir r.before t old.0)
            (append_assoc r.line came rest) old.2,
      );
  forth = λ rest old h. step.forth rest old
      (subst (λ (t : List ℕ). ReadsFrom r.place r.dir r.before t old)
      (sym (append_assoc r.line came rest)) h);
  half = step.half;
}

pub kept_part : (r : LayoutReader) (came part : List ℕ) → came ≡ part ++ 10 ∷ []
    → r.line ++ came ≡ (r.line ++ part) ++ 10 ∷ []
kept_part r came part is =
    ap (λ (t : List ℕ). r.line ++ t) is ∙ sym (append_assoc r.line part (10 ∷ []))

pub kept_feeds : (r : LayoutReader) (part : List ℕ) → r.place ≡ Files → has_feed part ≡ false
    → IsHalfLine r.place r.dir r.line → has_feed (r.line ++ part) ≡ false
kept_feeds r part place feeds half =
    none_feeds r.line part (subst (λ (p : Place). IsHalfLine p r.dir r.line) place half).0 feeds

-- ---- a part of a line

pub part_joins : (r : LayoutReader) (part line : List ℕ) → TakesLines r.place
    → line ≡ r.line ++ part → has_feed part ≡ false → length r.line + length part < 512
    → IsHalfLine r.place r.dir r.line → ReadsFurther r (record r { line = line }) part
part_joins r part line takes is feeds short half =
    joins r part line is (longer r.place takes half)
  where
    longer : (p : Place) → TakesLines p → IsHalfLine p r.dir r.line
        → IsHalfLine p r.dir (r.line ++ part)
    longer Front takes half = (
      part_no_front r.dir r.line part half.0 feeds,
      omega (arith, short, length-append r.line part),
    )
    longer Files takes half =
        (none_feeds r.line part half.0 feeds, omega (arith, short, length-append r.line part))
    longer Ended takes half = absurd takes
    longer Lost takes half = absurd takes

pub part_lost : (r : LayoutReader) (part empty : List ℕ) → TakesLines r.place → empty ≡ []
    → has_feed part ≡ false → 512 ≤ length r.line + length part
    → IsHalfLine r.place r.dir r.line
    → ReadsFurther r (record r { place = Lost; line = empty }) part
part_lost r part empty takes nothing feeds long half = record {
  dir = refl;
  back = λ rest more h. absurd h;
  forth = λ rest old h. absurd (never r.place takes half rest old
      (subst (λ (t : List ℕ). ReadsFrom r.place r.dir r.before t old)
      (sym (append_assoc r.line part rest)) h));
  half = nothing;
}
  where
    never : (p : Place) → TakesLines p → IsHalfLine p r.dir r.line → (rest : List ℕ)
        (old : List Entry) → ReadsFrom p r.dir r.before ((r.line ++ part) ++ rest) old → ⊥
    never Front takes half rest old read =
        long_no_front r.dir (r.line ++ part) rest (part_no_front r.dir r.line part half.0 feeds)
        (omega (arith, long, length-append r.line part)) read.0 read.1
    never Files takes half rest old read =
        long_forth r.dir r.before (r.line ++ part) rest old
        (none_feeds r.line part half.0 feeds) (omega (arith, long, length-append r.line part)) read
    never Ended takes half rest old read = takes
    never Lost takes half rest old read = takes

-- ---- behind the last line, and out of the layout

pub ended_step : (r : LayoutReader) (came : List ℕ) → r.place ≡ Ended → 0 < length came
    → IsHalfLine r.place r.dir r.line → ReadsFurther r (record r { place = Lost }) came
ended_step r came place some half = record {
  dir = refl;
  back = λ rest more h. absurd h;
  forth = λ rest old h.
      let read : (old ≡ []) × (r.line ++ (came ++ rest) ≡ []) =
      subst (λ (p : Place). ReadsFrom p r.dir r.before (r.line ++ (came ++ rest)) old) place h in
      absurd (omega (
        arith,
        some,
        ap (λ (t : List ℕ). length t) read.1,
        length-append r.line (came ++ rest),
        length-append came rest,
      ));
  half = subst (λ (p : Place). IsHalfLine p r.dir r.line) place half;
}

pub lost_step : (r : LayoutReader) (came : List ℕ) → r.place ≡ Lost
    → IsHalfLine r.place r.dir r.line → ReadsFurther r r came
lost_step r came place half = record {
  dir = refl;
  back = λ rest more h.
      absurd (subst (λ (p : Place). ReadsFrom p r.dir r.before (r.line ++ rest) more) place h);
  forth = λ rest old h.
      absurd (subst (λ (p : Place). ReadsFrom p r.dir r.before (r.line ++ (came ++ rest)) old)
      place h);
  half = half;
}

-- a line has its line feed
pub line_some : (came part : List ℕ) → came ≡ part ++ 10 ∷ [] → 0 < length came
line_some came part is =
    omega (arith, ap (λ (t : List ℕ). length t) is, length-append part (10 ∷ []))

-- ---- the end of a body

pub finished : (r : LayoutReader) (done : List ℕ) → HasReadLayout r done → r.place ≡ Ended
    → ReadsMultistatus r.dir r.entries done
finished r done at place =
    let empty : r.line ≡ [] = subst (λ (p : Place). IsHalfLine p r.dir r.line) place at.half in
    let read : ReadsMultistatus r.dir (r.entries ++ []) (done ++ []) =
    at.sound [] [] (subst (λ (p : Place). ReadsFrom p r.dir r.before (r.line ++ []) []) (sym place)
    (refl, append-nil r.line ∙ empty)) in
    subst (λ (t : List ℕ). ReadsMultistatus r.dir r.entries t) (append-nil done)
    (subst (λ (es : List Entry). ReadsMultistatus r.dir es (done ++ [])) (append-nil r.entries) read)

pub unfinished : (r : LayoutReader) (done : List ℕ) → HasReadLayout r done → (r.place ≡ Ended → ⊥)
    → (entries : List Entry) → ReadsMultistatus r.dir entries done → ⊥
unfinished r done at not entries h =
    let rest = at.only [] entries
    (subst (λ (t : List ℕ). ReadsMultistatus r.dir entries t) (sym (append-nil done)) h) in
    go r.place refl rest.0
    (subst (λ (t : List ℕ). ReadsFrom r.place r.dir r.before t rest.0) (append-nil r.line) rest.2)
    at.half
  where
    go : (p : Place) → r.place ≡ p → (more : List Entry) → ReadsFrom p r.dir r.before r.line more
        → IsHalfLine p r.dir r.line → ⊥
    go Front e more read half = half.0 read.0 read.1
    go Files e more read half = part_no_end r.dir r.before r.line more half.0 read
    go Ended e more read half = not e
    go Lost e more read half = read
