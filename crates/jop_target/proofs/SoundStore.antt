-- A sound store stays sound, and its replies fit.
use Rattle.std.proofs.Common.{◌≡◌, ◌≤◌, ◌∙◌, refl, sym, ap, subst, ℕ, List, length, true, false, Option, Some, None, Ok}
use Rattle.std.specs.Prelude.{nat_lt, bytes_eq}
use Rattle.std.proofs.lemmas.Bool.{cond_both, ltb-true, ltb-false}
use Rattle.jop_base.proofs.KeyedLaws.{bytes_eq-refl, key-at, All-at, All-put, at-put_same, IsSorted-put, IsSorted-cut}
use Rattle.jop_base.specs.Id.{IsIdText}
use Rattle.jop_base.specs.Paths.{IsPath, dir_text, path_text}
use Rattle.jop_base.specs.declared.dir.Dir.{Dir}
use Rattle.jop_base.specs.declared.path.Path.{Path}
use Rattle.jop_base.specs.declared.path.Path.TheVariants.{Blob}
use Rattle.jop_base.specs.Times.{last_time}
use Rattle.jop_target.specs.declared.call.Call.{Call}
use Rattle.jop_target.specs.declared.call.Call.TheVariants.{Get, GetBlob}
use Rattle.jop_target.specs.declared.reply.Entry.{Entry}
use Rattle.jop_target.specs.declared.reply.Reply.{Reply}
use Rattle.jop_target.specs.declared.reply.Reply.TheVariants.{GotBlob, TooLarge}
use Rattle.jop_target.specs.declared.tree.BlobBytes.{BlobBytes}
use Rattle.jop_target.specs.declared.tree.Content.{Content}
use Rattle.jop_target.specs.declared.tree.Content.TheVariants.{Whole, Sized}
use Rattle.jop_target.specs.declared.tree.File.{File}
use Rattle.jop_target.specs.Memory.{IsSoundStore, IsSoundFile, IsWholeContent, Fits, with_folder, with_placed, without}
use Rattle.jop_target.specs.Replies.{IsListing, IsReplyTo, KeepsBlob, names_blob}
use Rattle.jop_target.specs.Store.{Contents, file_key, blob_key, is_same, file_at, entries_in, set_file, got, got_blob, got_content, got_size, limit_of, bytes_in, bytes_of, with_blob, without_blob}
use Rattle.jop_target.proofs.Blobs.{Fits-more, Fits-less, Fits-same, IsSorted-less}
use Rattle.jop_target.proofs.Files.{All-put_other, All-cut_other, All-entries_in, entries_in_dir, IsSorted-entries_in}

-- ---- what a call leaves

whole_fits : (bs : List BlobBytes) (path : Path) (bytes : List ℕ) →
    names_blob path ≡ false → Fits bs path (Whole bytes)
whole_fits bs (Blob id) bytes plain = cc
whole_fits bs path bytes plain = tt

-- the bytes of a file that isn't a blob stand in the tree
pub IsSound-whole : (c : Contents) (path : Path) (bytes : List ℕ) (stamp : ℕ) →
    IsSoundStore c → IsPath path → names_blob path ≡ false → stamp ≤ last_time →
    IsSoundStore (record c { tree = set_file c.tree path (Whole bytes) stamp })
IsSound-whole c path bytes stamp sound is plain early = record {
  ordered = IsSorted-put file_key c.tree.files _ sound.ordered;
  files = All-put file_key (IsSoundFile c.blobs) c.tree.files _ sound.files
      (record { path = is; stamp = early; content = whole_fits c.blobs path bytes plain });
  folders = sound.folders;
  blobs = sound.blobs;
}

fits_more : (bs : List BlobBytes) (id bytes : List ℕ) (g : File) →
    is_same (Blob id) g.path ≡ false → IsSoundFile bs g → IsSoundFile (with_blob bs id bytes) g
fits_more bs id bytes g apart kept = record {
  path = kept.path;
  stamp = kept.stamp;
  content = Fits-more bs id bytes g.path g.content apart kept.content;
}

pub IsSound-sized : (c : Contents) (id bytes : List ℕ) (stamp : ℕ) →
    IsSoundStore c → IsIdText id → stamp ≤ last_time
    → IsSoundStore (with_placed c (Blob id) bytes stamp)
IsSound-sized c id bytes stamp sound is early =
    let more = with_blob c.blobs id bytes in
    let here = at-put_same blob_key c.blobs (record { id = id; bytes = bytes }) in
    let fits = ap (λ (b : _). Sized (length (bytes_in b))) (sym here) in
    record {
      ordered = IsSorted-put file_key c.tree.files _ sound.ordered;
      files =
          All-put_other file_key (IsSoundFile c.blobs) (IsSoundFile more) c.tree.files _
          sound.ordered (fits_more c.blobs id bytes) sound.files
          (record { path = is; stamp = early; content = fits });
      folders = sound.folders;
      blobs = IsSorted-put blob_key c.blobs _ sound.blobs;
    }

fits_less : (bs : List BlobBytes) (path : Path) (g : File) →
    is_same path g.path ≡ false → IsSoundFile bs g → IsSoundFile (without_blob bs path) g
fits_less bs path g apart kept = record {
  path = kept.path;
  stamp = kept.stamp;
  content = Fits-less bs path g.path g.content apart kept.content;
}

pub IsSound-without : (c : Contents) (path : Path) → IsSoundStore c → IsSoundStore (without c path)
IsSound-without c path sound = record {
  ordered = IsSorted-cut file_key c.tree.files (path_text path) sound.ordered;
  files =
      All-cut_other file_key (IsSoundFile c.blobs) (IsSoundFile (without_blob c.blobs path))
      c.tree.files (path_text path) sound.ordered (fits_less c.blobs path) sound.files;
  folders = sound.folders;
  blobs = IsSorted-less c.blobs path sound.blobs;
}

pub IsSound-with_folder : (c : Contents) (dir : Dir) → IsSoundStore c
    → IsSoundStore (with_folder c dir)
IsSound-with_folder c dir sound = record {
  ordered = sound.ordered;
  files = sound.files;
  folders = IsSorted-put dir_text c.tree.folders dir sound.folders;
  blobs = sound.blobs;
}

-- ---- what a call is answered

pub is_listing : (c : Contents) (dir : Dir) (now : ℕ) → IsSoundStore c → now ≤ last_time →
    IsListing dir (record { now = now; entries = entries_in c.tree.files dir })
is_listing c dir now sound early = record {
  now = early;
  paths = All-entries_in (λ (e : Entry). IsPath e.path) c.tree.files dir
      (λ k d within. (sound.files k d within).path);
  inside = entries_in_dir c.tree.files dir;
  stamps = All-entries_in (λ (e : Entry). e.stamp ≤ last_time) c.tree.files dir
      (λ k d within. (sound.files k d within).stamp);
  rising = IsSorted-entries_in c.tree.files dir sound.ordered;
}

whole_content : (bs : List BlobBytes) (path : Path) (content : Content) →
    names_blob path ≡ false → Fits bs path content → IsWholeContent content
whole_content bs (Blob id) content plain fits = cc
whole_content bs path content plain fits = fits

got_whole : (path : Path) (now : ℕ) (content : Content) →
    now ≤ last_time → IsWholeContent content →
    IsReplyTo (Get path) (got_content now (limit_of path) content)
got_whole path now (Whole bytes) early whole =
    cond_both (nat_lt (limit_of path) (length bytes)) _ _ (IsReplyTo (Get path))
    (λ long. ltb-true _ _ long)
    (λ short. (early, ltb-false _ _ short))
got_whole path now (Sized len) early whole = absurd whole

-- the file at a path has what fits there
fits_at : (c : Contents) (path : Path) (f : File) →
    IsSoundStore c → IsPath path → file_at c.tree.files path ≡ Some f → Fits c.blobs path f.content
fits_at c path f sound is there =
    let text = path_text path in
    let kept = All-at file_key (IsSoundFile c.blobs) c.tree.files text f sound.files there in
    let found = key-at file_key c.tree.files text f there in
    let same : is_same f.path path ≡ true =
    subst (λ (k : List ℕ). bytes_eq k text ≡ true) (sym found) (bytes_eq-refl text) in
    Fits-same c.blobs f.path path f.content kept.path is same kept.content

pub got_fits : (c : Contents) (path : Path) (now : ℕ) →
    IsSoundStore c → IsPath path → names_blob path ≡ false → now ≤ last_time →
    IsReplyTo (Get path) (got now (limit_of path) (file_at c.tree.files path))
got_fits c path now sound is plain early = by (file_at c.tree.files path) refl where
  by : (o : Option File) → file_at c.tree.files path ≡ o →
      IsReplyTo (Get path) (got now (limit_of path) o)
  by None absent = early
  by (Some f) there =
      got_whole path now f.content early
      (whole_content c.blobs path f.content plain (fits_at c path f sound is there))

got_sized : (id : List ℕ) (now len : ℕ) →
    now ≤ last_time → IsReplyTo (GetBlob id) (got_size now (limit_of (Blob id)) (Sized len))
got_sized id now len early =
    cond_both (nat_lt (limit_of (Blob id)) len) _ _ (IsReplyTo (GetBlob id))
    (λ long. ltb-true _ _ long)
    (λ short. (early, ltb-false _ _ short))

pub got_blob_fits : (c : Contents) (id : List ℕ) (now : ℕ) →
    IsSoundStore c → IsIdText id → now ≤ last_time →
    IsReplyTo (GetBlob id) (got_blob now (limit_of (Blob id)) (file_at c.tree.files (Blob id)))
got_blob_fits c id now sound is early = by (file_at c.tree.files (Blob id)) refl where
  by : (o : Option File) → file_at c.tree.files (Blob id) ≡ o →
      IsReplyTo (GetBlob id) (got_blob now (limit_of (Blob id)) o)
  by None absent = early
  by (Some f) there =
      subst (λ (d : Content). IsReplyTo (GetBlob id) (got_size now (limit_of (Blob id)) d))
      (sym (fits_at c (Blob id) f sound is there))
      (got_sized id now (length (bytes_of c.blobs id)) early)

-- ---- a blob that was got is as long as the reply says

sized_len : (limit now at len m : ℕ) → got_size at limit (Sized m) ≡ GotBlob now len → len ≡ m
sized_len limit now at len m is =
    cond_both (nat_lt limit m) (TooLarge m) (GotBlob at m)
    (λ (r : Reply). r ≡ GotBlob now len → len ≡ m)
    (λ long answer. cc)
    (λ short answer. cc) is

pub got_blob_len : (c : Contents) (id : List ℕ) (at now len : ℕ) → IsSoundStore c → IsIdText id →
    got_blob at (limit_of (Blob id)) (file_at c.tree.files (Blob id)) ≡ GotBlob now len →
    len ≡ length (bytes_of c.blobs id)
got_blob_len c id at now len sound is answer = by (file_at c.tree.files (Blob id)) refl answer where
  by : (o : Option File) → file_at c.tree.files (Blob id) ≡ o →
      got_blob at (limit_of (Blob id)) o ≡ GotBlob now len → len ≡ length (bytes_of c.blobs id)
  by None absent answer = cc
  by (Some f) there answer =
      sized_len (limit_of (Blob id)) now at len _
      (subst (λ (d : Content). got_size at (limit_of (Blob id)) d ≡ GotBlob now len)
      (fits_at c (Blob id) f sound is there) answer)

pub got_blob_kept : (c : Contents) (id before bytes : List ℕ) (at now len : ℕ) (reply : Reply) →
    IsSoundStore c → IsIdText id →
    reply ≡ got_blob at (limit_of (Blob id)) (file_at c.tree.files (Blob id)) →
    reply ≡ GotBlob now len →
    bytes ≡ bytes_of c.blobs id → KeepsBlob (Some c) (GetBlob id) before (Ok reply) bytes
got_blob_kept c id before bytes at now len reply sound is asked answer own =
    let long = got_blob_len c id at now len sound is (sym asked ∙ answer) in
    rw answer (long ∙ ap length (sym own), own)

pub other_kept : (c : Option Contents) (call : Call) (bytes : List ℕ) (reply : Reply) →
    ((now len : ℕ) → ¬ (reply ≡ GotBlob now len)) → KeepsBlob c call bytes (Ok reply) bytes
other_kept c call bytes (GotBlob now len) other = absurd (other now len refl)
other_kept c call bytes reply other = refl
