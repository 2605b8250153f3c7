-- The line of a file, and the last line, in the body that lists a folder.
use Rattle.std.proofs.Common.{◌≡◌, ℕ, ◌<◌, ◌≤◌, List, [], ◌∷◌, ◌++◌, length, get_or, drop, false, Option, Some, refl, sym, ap, subst, ◌∙◌, arith, append_assoc}
use Rattle.std.specs.Prelude.{codes, ◌==◌}
use Rattle.std.proofs.lemmas.Bool.{false≢true, or_parts, eq-eqb}
use Rattle.std.proofs.lemmas.List.{length-append}
use Rattle.httpdate.specs.Date.{date_text}
use Rattle.httpdate.specs.declared.date.HttpDate.{HttpDate}
use Rattle.jop_base.specs.Paths.{IsPath, file_name}
use Rattle.jop_base.specs.declared.dir.Dir.{Dir}
use Rattle.jop_base.specs.declared.dir.Dir.TheVariants.{Root, Resources, OldSync, Locks, Temp, Tombs}
use Rattle.jop_base.specs.declared.path.Path.{Path}
use Rattle.jop_base.specs.declared.path.Path.TheVariants.{Info, OldVersion, Item, Blob, Lock, Temp as TempFile, Tomb}
use Rattle.jop_target.specs.declared.reply.Entry.{Entry}
use Rattle.dav_parts.proofs.DateLemmas.{date_long}
use Rattle.dav_parts.proofs.LineLemmas.{line_unique}
use Rattle.dav_parts.specs.Targets.{dir_target}
use Rattle.dav_parts.specs.Multistatus.{href_open, date_open, entry_close, ending, with_date, IsLineOf, ComesAfter, ReadsLines}
use Rattle.dav_wire.proofs.DateTexts.{date_values}
use Rattle.reply_reader.specs.Layouts.{has_feed}
use Rattle.reply_reader.proofs.LineFeeds.{feed_cut, name_no_feed, no_feed_in, none_feeds, target_no_feed, values_no_feed}

-- ---- the line of a file

abbrev close_part : List ℕ
close_part =
    codes "</d:getlastmodified><d:resourcetype/></d:prop>"
    ++ codes "<d:status>HTTP/1.1 200 OK</d:status></d:propstat></d:response>"

close_ends : entry_close ≡ close_part ++ 10 ∷ []
unfolding entry_close
close_ends = refl

href_no_feed : has_feed href_open ≡ false
unfolding href_open
href_no_feed = refl

date_open_no_feed : has_feed date_open ≡ false
unfolding date_open
date_open_no_feed = refl

pub href_long : length href_open ≡ 20
unfolding href_open
href_long = refl

date_open_long : length date_open ≡ 48
unfolding date_open
date_open_long = refl

pub target_short : (dir : Dir) → length (dir_target dir) ≤ 11
target_short Root = omega arith
target_short Resources = omega arith
target_short OldSync = omega arith
target_short Locks = omega arith
target_short Temp = omega arith
target_short Tombs = omega arith

name_short : (path : Path) → IsPath path → length (file_name path) ≤ 41
name_short Info h = omega arith
name_short OldVersion h = omega arith
name_short (Item id) h = omega (arith, length-append id (codes ".md"), h.long)
name_short (Blob id) h = omega (arith, h.long)
name_short (Lock name) h = omega (arith, length-append name.client (codes ".json"), h.client.long)
name_short (TempFile id) h = omega (arith, length-append id (codes ".tmp"), h.long)
name_short (Tomb id) h = omega (arith, h.long)

-- a file's line up to its line feed
abbrev line_part : Dir → Path → HttpDate → List ℕ
line_part dir path date =
    href_open ++ (dir_target dir ++ (file_name path ++ (date_open ++ (date_text date ++ close_part))))

-- the line with what follows it
abbrev line_with : Dir → Path → HttpDate → List ℕ → List ℕ
line_with dir path date rest =
    href_open ++ (dir_target dir ++ (file_name path ++ with_date (date_text date) rest))

line_ends : (dir : Dir) (path : Path) (date : HttpDate) (rest : List ℕ) →
    line_with dir path date rest ≡ line_part dir path date ++ 10 ∷ rest
line_ends dir path date rest =
    let closed : entry_close ++ rest ≡ close_part ++ 10 ∷ rest =
    ap (λ (t : List ℕ). t ++ rest) close_ends ∙ append_assoc close_part (10 ∷ []) rest in
    sym (append_assoc href_open (dir_target dir ++ (file_name path ++ (date_open ++ (date_text date ++ close_part)))) (10 ∷ rest)
    ∙ ap (λ (t : List ℕ). href_open ++ t)
    (append_assoc (dir_target dir) (file_name path ++ (date_open ++ (date_text date ++ close_part))) (10 ∷ rest)
    ∙ ap (λ (t : List ℕ). dir_target dir ++ t)
    (append_assoc (file_name path) (date_open ++ (date_text date ++ close_part)) (10 ∷ rest)
    ∙ ap (λ (t : List ℕ). file_name path ++ t)
    (append_assoc date_open (date_text date ++ close_part) (10 ∷ rest)
    ∙ ap (λ (t : List ℕ). date_open ++ t)
    (append_assoc (date_text date) close_part (10 ∷ rest)
    ∙ ap (λ (t : List ℕ). date_text date ++ t) (sym closed))))))

part_no_feed : (dir : Dir) (path : Path) (date : HttpDate) → IsPath path →
    has_feed (line_part dir path date) ≡ false
part_no_feed dir path date h =
    none_feeds href_open _ href_no_feed
    (none_feeds (dir_target dir) _ (target_no_feed dir)
    (none_feeds (file_name path) _ (name_no_feed path h)
    (none_feeds date_open _ date_open_no_feed
    (none_feeds (date_text date) _ (values_no_feed (date_text date) (date_values date)) refl))))

part_short : (dir : Dir) (path : Path) (date : HttpDate) → IsPath path →
    length (line_part dir path date) < 511
part_short dir path date h =
    let a = length-append href_open (dir_target dir ++ (file_name path ++ (date_open ++ (date_text date ++ close_part)))) in
    let b = length-append (dir_target dir) (file_name path ++ (date_open ++ (date_text date ++ close_part))) in
    let c = length-append (file_name path) (date_open ++ (date_text date ++ close_part)) in
    let d = length-append date_open (date_text date ++ close_part) in
    let e = length-append (date_text date) close_part in
    omega (arith, a, b, c, d, e, href_long, target_short dir, name_short path h, date_open_long, date_long date)

-- what a file's line is: a part without a line feed, and then that
pub record WholeLine (dir : Dir) (entry : Entry) (text rest : List ℕ) : Type 0 where
  pub part : List ℕ
  pub is : text ≡ part ++ 10 ∷ rest
  pub none : has_feed part ≡ false
  pub short : length part < 511
  pub alone : (other : List ℕ) → IsLineOf dir entry (part ++ 10 ∷ other) other

line_alone : (dir : Dir) (entry : Entry) (text rest : List ℕ) (h : IsLineOf dir entry text rest)
    (other : List ℕ) →
    IsLineOf dir entry (line_part dir entry.path h.2.date ++ 10 ∷ other) other
line_alone dir entry text rest h other = (
  file_name entry.path ++ with_date (date_text h.2.date) other,
  sym (line_ends dir entry.path h.2.date other),
  record {
    date = h.2.date;
    stamp = h.2.stamp;
    line = refl;
    inside = h.2.inside;
    path = h.2.path;
  },
)

pub whole_line : (dir : Dir) (entry : Entry) (text rest : List ℕ) → IsLineOf dir entry text rest →
    WholeLine dir entry text rest
whole_line dir entry text rest h = record {
  part = line_part dir entry.path h.2.date;
  is = h.1 ∙ ap (λ (t : List ℕ). href_open ++ (dir_target dir ++ t)) h.2.line
      ∙ line_ends dir entry.path h.2.date rest;
  none = part_no_feed dir entry.path h.2.date h.2.path;
  short = part_short dir entry.path h.2.date h.2.path;
  alone = line_alone dir entry text rest h;
}

-- ---- the last line

abbrev ending_part : List ℕ
ending_part = codes "</d:multistatus>"

ending_ends : ending ≡ ending_part ++ 10 ∷ []
unfolding ending
ending_ends = refl

pub ending_no_line : (dir : Dir) (entry : Entry) (rest : List ℕ) → IsLineOf dir entry ending rest → ⊥
unfolding ending href_open
ending_no_line dir entry rest h =
    let second : 47 ≡ 100 = ap (λ (t : List ℕ). get_or t 1 0) h.1 in
    omega (arith, second)

-- ---- a whole line came

-- what the text is, where these came before its line feed
module _ (dir : Dir) (before : Option Entry) (part : List ℕ) (none : has_feed part ≡ false) where
  -- it is the last line
  pub ends_here : (rest : List ℕ) → part ++ 10 ∷ rest ≡ ending → (part ++ 10 ∷ [] ≡ ending) × (rest ≡ [])
  ends_here rest e =
      let cut = feed_cut part ending_part rest [] none refl (e ∙ ending_ends) in
      (ap (λ (p : List ℕ). p ++ 10 ∷ []) cut.0 ∙ sym ending_ends, cut.1)

  -- it is the line of this file
  pub is_here : (entry : Entry) (rest behind : List ℕ) → IsLineOf dir entry (part ++ 10 ∷ rest) behind
      → (rest ≡ behind) × ((other : List ℕ) → IsLineOf dir entry (part ++ 10 ∷ other) other)
  is_here entry rest behind h =
      let w = whole_line dir entry (part ++ 10 ∷ rest) behind h in
      let cut = feed_cut part w.part rest behind none w.none w.is in (
        cut.1,
        λ other. subst (λ (p : List ℕ). IsLineOf dir entry (p ++ 10 ∷ other) other) (sym cut.0)
            (w.alone other),
      )

  -- a body that goes on so, where it is the line of a file
  pub file_forth : (entry : Entry) (rest : List ℕ) (old : List Entry)
      → ((other : List ℕ) → IsLineOf dir entry (part ++ 10 ∷ other) other)
      → (part ++ 10 ∷ [] ≡ ending → ⊥)
      → ReadsLines dir before old (part ++ 10 ∷ rest)
      → (more : List Entry) × (old ≡ entry ∷ more) × ReadsLines dir (Some entry) more rest
  file_forth entry rest [] line more-to-come h = absurd (more-to-come (ends_here rest h).0)
  file_forth entry rest (f ∷ old) line more-to-come h =
      let here = is_here f rest h.0 h.1 in
      let same = line_unique dir f entry (part ++ 10 ∷ rest) h.0 rest h.1 (line rest) in (
        old,
        ap (λ (x : Entry). x ∷ old) same.0,
        subst (λ (x : Entry). ReadsLines dir (Some x) old rest) same.0
            (subst (λ (t : List ℕ). ReadsLines dir (Some f) old t) same.1 h.3),
      )

  -- where it is the last line
  pub last_forth : (rest : List ℕ) (old : List Entry) → part ++ 10 ∷ [] ≡ ending
      → ReadsLines dir before old (part ++ 10 ∷ rest) → (old ≡ []) × (rest ≡ [])
  last_forth rest [] last h = (refl, (ends_here rest h).1)
  last_forth rest (f ∷ old) last h =
      let here = is_here f rest h.0 h.1 in
      absurd (ending_no_line dir f [] (subst (λ (t : List ℕ). IsLineOf dir f t []) last (here.1 [])))

  -- where it is neither
  pub other_forth : (rest : List ℕ) (old : List Entry) → (part ++ 10 ∷ [] ≡ ending → ⊥)
      → ((entry : Entry) (behind : List ℕ) → IsLineOf dir entry (part ++ 10 ∷ []) behind
      → ComesAfter before entry → ⊥)
      → ReadsLines dir before old (part ++ 10 ∷ rest) → ⊥
  other_forth rest [] goes not h = goes (ends_here rest h).0
  other_forth rest (f ∷ old) goes not h =
      let here = is_here f rest h.0 h.1 in
      not f [] (here.1 []) h.2

-- ---- a part of a line that is too long

pub long_forth : (dir : Dir) (before : Option Entry) (part rest : List ℕ) (old : List Entry)
    → has_feed part ≡ false → 512 ≤ length part → ReadsLines dir before old (part ++ rest) → ⊥
long_forth dir before part rest [] none long h =
    let e : part ++ rest ≡ ending_part ++ 10 ∷ [] = h ∙ ending_ends in
    omega (arith, long, ap (λ (t : List ℕ). length t) e, length-append part rest)
long_forth dir before part rest (f ∷ old) none long h =
    let w = whole_line dir f (part ++ rest) h.0 h.1 in
    longer part w.part rest h.0 none w.none (omega (arith, long, w.short)) w.is
  where
    longer : (a b r q : List ℕ) → has_feed a ≡ false → has_feed b ≡ false → length b < length a
        → a ++ r ≡ b ++ 10 ∷ q → ⊥
    longer [] b r q ha hb more e = absurd (omega arith)
    longer (c ∷ a) [] r q ha hb more e =
        false≢true (sym (or_parts (c == 10) (has_feed a) ha).0
        ∙ eq-eqb c 10 (ap (λ (t : List ℕ). get_or t 0 0) e))
    longer (c ∷ a) (d ∷ b) r q ha hb more e =
        longer a b r q (or_parts (c == 10) (has_feed a) ha).1 (or_parts (d == 10) (has_feed b) hb).1
        (omega arith) (ap (λ (t : List ℕ). drop 1 t) e)

-- ---- the end of a body

-- without a line feed it isn't whole
pub part_no_end : (dir : Dir) (before : Option Entry) (part : List ℕ) (old : List Entry)
    → has_feed part ≡ false → ReadsLines dir before old part → ⊥
part_no_end dir before part [] none h = no_feed_in part ending_part [] [] none (h ∙ ending_ends)
part_no_end dir before part (f ∷ old) none h =
    let w = whole_line dir f part h.0 h.1 in
    no_feed_in part w.part [] h.0 none w.is
