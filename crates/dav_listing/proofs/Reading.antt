-- A reader that has read some bytes has read one more.
use Rattle.std.proofs.Common.{◌≡◌, ◌∙◌, refl, sym, ap, subst, arith, ℕ, ◌+◌, ◌<◌, List, [], ◌∷◌, ◌++◌, length, take, get_or, Bool, true, false, cond, Option, Some, None, inl, inr, append-nil, append_assoc}
use Rattle.std.specs.Prelude.{IfNone, IfSome, IsPermutation, ◌||◌, ◌&&◌, count_by, not}
use Rattle.std.specs.List.{list_any, filter_map}
use Rattle.std.proofs.lemmas.Bool.{false≢true, or_from}
use Rattle.std.proofs.lemmas.List.{take_more}
use Rattle.std.proofs.lemmas.List.Elements.{filter_map-append}
use Rattle.std.proofs.lemmas.List.Folds.{list_any-append}
use Rattle.std.proofs.lemmas.List.Sums.{sum_by-append}
use Rattle.jop_base.specs.declared.dir.Dir.{Dir}
use Rattle.jop_target.specs.Replies.{IsRising}
use Rattle.jop_target.specs.declared.reply.Entry.{Entry}
use Rattle.dav_listing.specs.Listings.{AreClasses, AreFilesOf, IsClass, ListsFiles, file_in, is_folder_itself, is_wrong}
use Rattle.dav_listing.specs.Multistatus.{is_whole, one_on, progress_behind, progress_of, shown_more}
use Rattle.dav_listing.specs.Readers.{AreFilesSoFar, FollowsBody, HasGivenUp, HasReadBody, ReadsSame, TakesByte, TakesByteIf, TakesMember, after_class, is_complete, times}
use Rattle.dav_listing.specs.declared.class.Class.{Class}
use Rattle.dav_listing.specs.declared.class.Class.TheVariants.{Itself, File, Foreign, Wrong}
use Rattle.dav_listing.specs.declared.listing_reader.ListingReader.{ListingReader}
use Rattle.dav_listing.specs.declared.member.Member.{Member}
use Rattle.dav_listing.specs.declared.multistatus_reader.MultistatusReader.{MultistatusReader}
use Rattle.dav_listing.proofs.OneClass.{class_once, classes_of_none, classes_once, files_once, first_classes, one_class_more}
use Rattle.dav_listing.proofs.ProgressLemmas.{more_are_shown, one_byte_more, shown_is_whole, whole_shows}

owns_in : List Class → ℕ
owns_in cs = count_by is_folder_itself cs

owns_in-append : (cs ds : List Class) → count_by is_folder_itself (cs ++ ds) ≡ count_by is_folder_itself cs + count_by is_folder_itself ds
owns_in-append cs ds = sum_by-append (λ (d : Class). cond (is_folder_itself d) 1 0) cs ds

-- ---- one resource more

one_owned : (c : Class) → count_by is_folder_itself (c ∷ []) ≡ times (is_folder_itself c)
one_owned Itself = refl
one_owned (File path stamp) = refl
one_owned Foreign = refl
one_owned Wrong = refl

one_sound : (c : Class) → is_wrong c ≡ false → list_any is_wrong (c ∷ []) ≡ false
one_sound c h = or_from (is_wrong c) false h refl

one_file_more : (dir : Dir) (folder : List ℕ) (ms : List Member) (m : Member) (files more : List Entry)
    (own owns : Bool) (c : Class) → AreFilesSoFar dir folder ms files own → IsClass dir folder m c
    → is_wrong c ≡ false → times owns ≡ times own + times (is_folder_itself c)
    → more ≡ files ++ filter_map file_in (c ∷ []) → AreFilesSoFar dir folder (ms ++ m ∷ []) more owns
one_file_more dir folder ms m files more own owns c so class sound count all = record {
  classes = so.classes ++ c ∷ [];
  told = one_class_more dir folder ms so.classes m c so.told class;
  sound = list_any-append is_wrong so.classes (c ∷ [])
      ∙ or_from (list_any is_wrong so.classes) (list_any is_wrong (c ∷ [])) so.sound
      (one_sound c sound);
  own_is = owns_in-append so.classes (c ∷ [])
      ∙ ap (λ (n : ℕ). n + count_by is_folder_itself (c ∷ [])) so.own_is
      ∙ ap (λ (n : ℕ). times own + n) (one_owned c) ∙ sym count;
  files_are = all ∙ ap (λ (fs : List Entry). fs ++ filter_map file_in (c ∷ [])) so.files_are
      ∙ sym (filter_map-append file_in so.classes (c ∷ []));
}

-- ---- why no listing begins so

-- the classes of a resource among others, with those before it and behind it
pub record StandsAmong (dir : Dir) (folder : List ℕ) (before : List Member) (c : Class)
    (classes : List Class) : Type 0 where
  pub first : List Class
  pub rest : List Class
  pub told : AreClasses dir folder before first
  pub are : classes ≡ first ++ (c ∷ rest)

among : (dir : Dir) (folder : List ℕ) (before rest : List Member) (m : Member) (c : Class)
    (classes : List Class) → IsClass dir folder m c
    → AreClasses dir folder ((before ++ m ∷ []) ++ rest) classes
    → StandsAmong dir folder before c classes
unfolding AreClasses
among dir folder before rest m c classes is told =
    let whole = subst (λ (ms : List Member). AreClasses dir folder ms classes)
    (append_assoc before (m ∷ []) rest) told in
    let r = first_classes dir folder before (m ∷ rest) classes whole in
    let same = class_once dir folder m r.3.0 c r.3.3 is in record {
      first = r.0;
      rest = r.3.1;
      told = r.2;
      are = r.4 ∙ ap (λ (ds : List Class). r.0 ++ ds) (r.3.2 ∙ ap (λ (x : Class). x ∷ r.3.1) same);
    }

or_right : (a b : Bool) → (a || b) ≡ false → b ≡ false
or_right true b h = cc
or_right false b h = h

or_left : (a b : Bool) → (a || b) ≡ false → a ≡ false
or_left true b h = h
or_left false b h = refl

wrong_is_none : (dir : Dir) (folder : List ℕ) (before rest : List Member) (m : Member) (c : Class)
    (files : List Entry) → IsClass dir folder m c → c ≡ Wrong
    → AreFilesOf dir folder ((before ++ m ∷ []) ++ rest) files → ⊥
wrong_is_none dir folder before rest m c files is wrong all =
    let s = among dir folder before rest m c all.classes is all.told in
    let sound : list_any is_wrong (s.first ++ (c ∷ s.rest)) ≡ false =
    ap (list_any is_wrong) (sym s.are) ∙ all.sound in
    let here : list_any is_wrong (c ∷ s.rest) ≡ false =
    or_right (list_any is_wrong s.first) (list_any is_wrong (c ∷ s.rest))
    (sym (list_any-append is_wrong s.first (c ∷ s.rest)) ∙ sound) in
    false≢true (sym (or_left (is_wrong c) (list_any is_wrong s.rest) here) ∙ ap is_wrong wrong)

twice_is_none : (dir : Dir) (folder : List ℕ) (before rest : List Member) (m : Member) (c : Class)
    (seen files : List Entry) → IsClass dir folder m c → c ≡ Itself
    → AreFilesSoFar dir folder before seen true
    → AreFilesOf dir folder ((before ++ m ∷ []) ++ rest) files → ⊥
twice_is_none dir folder before rest m c seen files is itself so all =
    let s = among dir folder before rest m c all.classes is all.told in
    let same = classes_once dir folder before so.classes s.first so.told s.told in
    let one : count_by is_folder_itself s.first ≡ 1 =
    ap (λ (ds : List Class). count_by is_folder_itself ds) (sym same) ∙ so.own_is in
    let here : count_by is_folder_itself (c ∷ []) ≡ 1 =
    ap (λ (x : Class). count_by is_folder_itself (x ∷ [])) itself in
    let sum : count_by is_folder_itself all.classes
    ≡ count_by is_folder_itself s.first + (count_by is_folder_itself (c ∷ []) + count_by is_folder_itself s.rest) =
    ap (λ (ds : List Class). count_by is_folder_itself ds) s.are ∙ owns_in-append s.first (c ∷ s.rest)
    ∙ ap (λ (n : ℕ). count_by is_folder_itself s.first + n) (owns_in-append (c ∷ []) s.rest) in
    omega (arith, one, here, sum, all.own)

-- no body that begins so lists files, if these resources can't
none_begins_so : (dir : Dir) (folder body more : List ℕ) (entries : List Entry) (ms : List Member)
    → (progress_of body).members ≡ ms
    → ((rest : List Member) (files : List Entry) → AreFilesOf dir folder (ms ++ rest) files → ⊥)
    → ¬ (ListsFiles dir folder (body ++ more) entries)
none_begins_so dir folder body more entries ms are none l =
    let longer = more_are_shown body more l.members l.shown in
    none longer.0 l.files (subst (λ (xs : List Member). AreFilesOf dir folder xs l.files)
    (longer.1 ∙ ap (λ (xs : List Member). xs ++ longer.0) are) l.files_of)

-- ---- one byte more

class_taken : (r : ListingReader) (body : List ℕ) (ms : List Member) (m : Member) (c : Class)
    → r.wrong ≡ false → r.reader ≡ (progress_of body).reader
    → (progress_of body).members ≡ ms ++ m ∷ []
    → AreFilesSoFar r.dir r.folder ms r.files r.own → IsClass r.dir r.folder m c
    → HasReadBody (after_class r (Some c)) body
class_taken r body ms m (File path stamp) sound there are so is = inl (record {
  sound = sound;
  there = there;
  files = subst (λ (xs : List Member). AreFilesSoFar r.dir r.folder xs
      (r.files ++ (record { path = path; stamp = stamp }) ∷ []) r.own) (sym are)
      (one_file_more r.dir r.folder ms m r.files
      (r.files ++ (record { path = path; stamp = stamp }) ∷ []) r.own r.own (File path stamp) so is
      refl (omega arith) refl);
})
class_taken r body ms m Foreign sound there are so is = inl (record {
  sound = sound;
  there = there;
  files = subst (λ (xs : List Member). AreFilesSoFar r.dir r.folder xs r.files r.own) (sym are)
      (one_file_more r.dir r.folder ms m r.files r.files r.own r.own Foreign so is refl (omega arith)
      (sym (append-nil r.files)));
})
class_taken r body ms m Wrong sound there are so is = inr (record {
  wrong = refl;
  none = λ more entries. none_begins_so r.dir r.folder body more entries (ms ++ m ∷ []) are
      (λ rest files. wrong_is_none r.dir r.folder ms rest m Wrong files is refl);
})
class_taken r body ms m Itself sound there are so is =
    subst (λ (w : Bool). HasReadBody (record r { wrong = w; own = true }) body)
    (λ i. sym sound i || r.own) (at r.own refl)
  where
    at : (own : Bool) → r.own ≡ own
        → HasReadBody (record r { wrong = own; own = true }) body
    at true was = inr (record {
      wrong = refl;
      none = λ more entries. none_begins_so r.dir r.folder body more entries (ms ++ m ∷ []) are
          (λ rest files. twice_is_none r.dir r.folder ms rest m Itself r.files files is refl
          (subst (λ (b : Bool). AreFilesSoFar r.dir r.folder ms r.files b) was so));
    })
    at false was = inl (record {
      sound = refl;
      there = there;
      files = subst (λ (xs : List Member). AreFilesSoFar r.dir r.folder xs r.files true) (sym are)
          (one_file_more r.dir r.folder ms m r.files r.files false true Itself
          (subst (λ (b : Bool). AreFilesSoFar r.dir r.folder ms r.files b) was so) is refl refl
          (sym (append-nil r.files)));
    })

member_taken : (r new : ListingReader) (body : List ℕ) (ms : List Member) (o : Option Member)
    → r.wrong ≡ false → r.reader ≡ (progress_of body).reader
    → (progress_of body).members ≡ shown_more ms o
    → AreFilesSoFar r.dir r.folder ms r.files r.own → TakesMember r o new → HasReadBody new body
member_taken r new body ms None sound there are so (class, is, same) =
    subst (λ (x : ListingReader). HasReadBody x body) (sym (same ∙ ap (after_class r) is)) (inl (record {
      sound = sound;
      there = there;
      files = subst (λ (xs : List Member). AreFilesSoFar r.dir r.folder xs r.files r.own) (sym are) so;
    }))
member_taken r new body ms (Some m) sound there are so (class, is, same) =
    subst (λ (x : ListingReader). HasReadBody x body) (sym (same ∙ ap (after_class r) is.2))
    (class_taken r body ms m is.0 sound there are so is.1)

followed : (old new : ListingReader) (body : List ℕ) (b : ℕ) → FollowsBody old body
    → TakesByteIf false old b new → HasReadBody new (body ++ b ∷ [])
followed old new body b f taken =
    let next = one_byte_more body b in
    let same = ap (λ (r : MultistatusReader). one_on r b) f.there in
    member_taken (record old { reader = one_on old.reader b }) new (body ++ b ∷ [])
    (progress_of body).members (one_on old.reader b).ended f.sound
    (same ∙ sym (ap (λ p. p.reader) next))
    (ap (λ p. p.members) next
    ∙ ap (λ (r : MultistatusReader). shown_more (progress_of body).members r.ended) (sym same))
    f.files taken

given_up : (r : ListingReader) (body : List ℕ) (b : ℕ) → HasGivenUp r body
    → HasGivenUp r (body ++ b ∷ [])
given_up r body b g = record {
  wrong = g.wrong;
  none = λ more entries l. g.none (b ∷ more) entries
      (subst (λ (t : List ℕ). ListsFiles r.dir r.folder t entries) (append_assoc body (b ∷ []) more) l);
}

pub byte_taken : (old new : ListingReader) (body : List ℕ) (b : ℕ) → TakesByte old b new
    → HasReadBody old body → HasReadBody new (body ++ b ∷ [])
byte_taken old new body b taken (inl f) =
    followed old new body b f
    (subst (λ (w : Bool). TakesByteIf w old b new) f.sound taken)
byte_taken old new body b taken (inr g) =
    let same = subst (λ (w : Bool). TakesByteIf w old b new) g.wrong taken in
    inr (subst (λ (x : ListingReader). HasGivenUp x (body ++ b ∷ [])) (sym same) (given_up old body b g))

-- ---- the folder stays

class_keeps : (r : ListingReader) (c : Option Class) → ReadsSame r (after_class r c)
class_keeps r None = record { dir = refl; folder = refl }
class_keeps r (Some Itself) = record { dir = refl; folder = refl }
class_keeps r (Some (File path stamp)) = record { dir = refl; folder = refl }
class_keeps r (Some Foreign) = record { dir = refl; folder = refl }
class_keeps r (Some Wrong) = record { dir = refl; folder = refl }

member_keeps : (r new : ListingReader) (o : Option Member) → TakesMember r o new → ReadsSame r new
member_keeps r new o (class, is, same) =
    subst (ReadsSame r) (sym same) (class_keeps r class)

keeps_if : (w : Bool) (old new : ListingReader) (b : ℕ) → TakesByteIf w old b new
    → ReadsSame old new
keeps_if true old new b is = subst (ReadsSame old) (sym is) (record { dir = refl; folder = refl })
keeps_if false old new b taken =
    let r = member_keeps (record old { reader = one_on old.reader b }) new
    (one_on old.reader b).ended taken in record { dir = r.dir; folder = r.folder }

pub byte_keeps : (old new : ListingReader) (b : ℕ) → TakesByte old b new → ReadsSame old new
byte_keeps old new b taken = keeps_if old.wrong old new b taken

pub keeps_on : (first old new : ListingReader) → ReadsSame first old → ReadsSame old new
    → ReadsSame first new
keeps_on first old new a b = record { dir = b.dir ∙ a.dir; folder = b.folder ∙ a.folder }

-- what a reader of a piece knows behind so many of its bytes
abbrev pub HasFed : ListingReader → ListingReader → List ℕ → ℕ → Type 0
HasFed first r piece i =
    ReadsSame first r
    × ((body : List ℕ) → HasReadBody first body → HasReadBody r (body ++ take i piece))

pub fed_on : (first old new : ListingReader) (piece : List ℕ) (i d : ℕ) → i < length piece
    → TakesByte old (get_or piece i d) new → HasFed first old piece i
    → HasFed first new piece (i + 1)
fed_on first old new piece i d inside taken (same, read) =
    let b = get_or piece i d in (
      keeps_on first old new same (byte_keeps old new b taken),
      λ body before.
          subst (λ (t : List ℕ). HasReadBody new t)
          (append_assoc body (take i piece) (b ∷ [])
          ∙ ap (λ (t : List ℕ). body ++ t) (sym (take_more piece i d inside)))
          (byte_taken old new (body ++ take i piece) b taken (read body before)),
    )

-- ---- at the end

pub nothing_read : (r : ListingReader) → r.wrong ≡ false → r.reader ≡ (progress_of []).reader
    → r.files ≡ [] → r.own ≡ false → HasReadBody r []
unfolding progress_behind
nothing_read r sound there files own = inl (record {
  sound = sound;
  there = there;
  files = record {
    classes = [];
    told = classes_of_none r.dir r.folder;
    sound = refl;
    own_is = sym (ap times own);
    files_are = files;
  };
})

-- a complete reader has followed the body, and the folder itself was shown
complete : (w own whole : Bool) → (not w && (own && whole)) ≡ true
    → (w ≡ false) × (own ≡ true) × (whole ≡ true)
complete true own whole h = cc
complete false false whole h = cc
complete false true whole h = (refl, refl, h)

read_follows : (r : ListingReader) (body : List ℕ) → r.wrong ≡ false → HasReadBody r body
    → FollowsBody r body
read_follows r body sound (inl f) = f
read_follows r body sound (inr g) = absurd (false≢true (sym sound ∙ g.wrong))

all_files : (r : ListingReader) (body : List ℕ) → r.own ≡ true → FollowsBody r body
    → AreFilesOf r.dir r.folder (progress_of body).members r.files
all_files r body own f = record {
  classes = f.files.classes;
  told = f.files.told;
  sound = f.files.sound;
  own = f.files.own_is ∙ ap times own;
  files_are = f.files.files_are;
}

pub complete_lists : (r : ListingReader) (entries : List Entry) → is_complete r ≡ true
    → IsPermutation r.files entries → IsRising entries
    → (body : List ℕ) → HasReadBody r body → ListsFiles r.dir r.folder body entries
complete_lists r entries done same rising body read =
    let parts = complete r.wrong r.own (is_whole r.reader.mode r.reader.place) done in
    let f = read_follows r body parts.0 read in record {
      members = (progress_of body).members;
      shown = whole_shows (progress_of body)
          (ap (λ (x : MultistatusReader). is_whole x.mode x.place) (sym f.there) ∙ parts.2);
      files = r.files;
      files_of = all_files r body parts.1 f;
      same = same;
      rising = rising;
    }

complete_lists_none : (r : ListingReader) → is_complete r ≡ true
    → ((entries : List Entry) → IsPermutation r.files entries → ¬ (IsRising entries))
    → (body : List ℕ) (entries : List Entry) → HasReadBody r body → ¬ (ListsFiles r.dir r.folder body entries)
complete_lists_none r done none body entries read l =
    let parts = complete r.wrong r.own (is_whole r.reader.mode r.reader.place) done in
    let f = read_follows r body parts.0 read in
    let shown = shown_is_whole (progress_of body) l.members l.shown in
    let same = files_once r.dir r.folder l.members l.files r.files l.files_of
    (subst (λ (ms : List Member). AreFilesOf r.dir r.folder ms r.files) shown.1
    (all_files r body parts.1 f)) in
    none entries (subst (λ (fs : List Entry). IsPermutation fs entries) same l.same) l.rising

pub none_in_order : (r : ListingReader) (found : Option (List Entry)) → is_complete r ≡ true
    → IfNone found ((entries : List Entry) → IsPermutation r.files entries → ¬ (IsRising entries))
    → IfNone found ((body : List ℕ) (entries : List Entry) → HasReadBody r body
    → ¬ (ListsFiles r.dir r.folder body entries))
none_in_order r (Some entries) done none = none
none_in_order r None done none = complete_lists_none r done none

own_was_shown : (r : ListingReader) (body : List ℕ) (entries : List Entry) (own : Bool)
    → r.own ≡ own → FollowsBody r body → ListsFiles r.dir r.folder body entries → own ≡ true
own_was_shown r body entries true is f l = refl
own_was_shown r body entries false is f l =
    let shown = shown_is_whole (progress_of body) l.members l.shown in
    let same = classes_once r.dir r.folder l.members f.files.classes l.files_of.classes
    (subst (λ (ms : List Member). AreClasses r.dir r.folder ms f.files.classes) shown.1 f.files.told)
    l.files_of.told in
    let zero_is : count_by is_folder_itself l.files_of.classes ≡ 0 =
    ap (λ (ds : List Class). count_by is_folder_itself ds) (sym same) ∙ f.files.own_is ∙ ap times is in
    absurd (omega (arith, zero_is, l.files_of.own))

pub incomplete_lists_none : (r : ListingReader) → is_complete r ≡ false
    → (body : List ℕ) (entries : List Entry) → HasReadBody r body → ¬ (ListsFiles r.dir r.folder body entries)
incomplete_lists_none r undone body entries (inl f) l =
    let shown = shown_is_whole (progress_of body) l.members l.shown in
    let whole = ap (λ (x : MultistatusReader). is_whole x.mode x.place) f.there ∙ shown.0 in
    let own = own_was_shown r body entries r.own refl f l in
    false≢true (sym undone
    ∙ (λ i. not (f.sound i) && (own i && whole i)))
incomplete_lists_none r undone body entries (inr g) l =
    g.none [] entries
    (subst (λ (t : List ℕ). ListsFiles r.dir r.folder t entries) (sym (append-nil body)) l)

-- ---- a reader of one folder's listing

module _ (dir : Dir) (folder body : List ℕ) (first r : ListingReader) (of_dir : first.dir ≡ dir)
    (of_folder : first.folder ≡ folder) (same : ReadsSame first r) (read : HasReadBody r body) where
  found_of : (entries : List Entry) → ListsFiles r.dir r.folder body entries → ListsFiles dir folder body entries
  found_of entries l =
      subst (λ (d : Dir). ListsFiles d folder body entries) (same.dir ∙ of_dir)
      (subst (λ (f : List ℕ). ListsFiles r.dir f body entries) (same.folder ∙ of_folder) l)

  of_found : (entries : List Entry) → ListsFiles dir folder body entries → ListsFiles r.dir r.folder body entries
  of_found entries l =
      subst (λ (d : Dir). ListsFiles d r.folder body entries) (sym (same.dir ∙ of_dir))
      (subst (λ (f : List ℕ). ListsFiles dir f body entries) (sym (same.folder ∙ of_folder)) l)

  pub is_found : (result : Option (List Entry))
      → IfSome result (λ entries. (bytes : List ℕ) → HasReadBody r bytes → ListsFiles r.dir r.folder bytes entries)
      → IfSome result (ListsFiles dir folder body)
  is_found (Some entries) found = found_of entries (found body read)
  is_found None found = found

  pub is_none : (result : Option (List Entry))
      → IfNone result ((bytes : List ℕ) (entries : List Entry) → HasReadBody r bytes
      → ¬ (ListsFiles r.dir r.folder bytes entries))
      → IfNone result ((entries : List Entry) → ¬ (ListsFiles dir folder body entries))
  is_none (Some entries) none = none
  is_none None none = λ entries l. none body entries read (of_found entries l)
