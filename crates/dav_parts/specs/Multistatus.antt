-- The body of a response to a listing (RFC 4918, 13), in the one layout that is written and read.
-- Each line ends with a line feed: the XML declaration, the root's opening, the folder, each file,
-- the root's end.
use Rattle.std.specs.Prelude.{◌≡◌, ℕ, ◌*◌, ◌/◌, ◌==◌, Bool, List, [], ◌∷◌, ◌++◌, codes, Option, Some, None}
use Rattle.std.specs.declared.cmp.Ordering.TheVariants.{Less}
use Rattle.std.specs.List.{list_any}
use Rattle.httpdate.specs.Date.{unix_secs, date_text}
use Rattle.httpdate.specs.declared.date.HttpDate.{HttpDate}
use Rattle.jop_base.specs.Order.{path_cmp}
use Rattle.jop_base.specs.Paths.{IsPath, dir_of, file_name}
use Rattle.jop_base.specs.declared.dir.Dir.{Dir}
use Rattle.jop_target.specs.declared.reply.Entry.{Entry}
use Rattle.dav_parts.specs.Targets.{dir_target}

-- ---- the fixed parts

unfoldable pub heading : List ℕ
heading = codes "<?xml version=\"1.0\" encoding=\"utf-8\"?>\n<d:multistatus xmlns:d=\"DAV:\">\n"

unfoldable pub href_open : List ℕ
href_open = codes "<d:response><d:href>"

unfoldable pub folder_close : List ℕ
folder_close =
    codes "</d:href><d:propstat><d:prop><d:resourcetype><d:collection/></d:resourcetype>"
    ++ codes "</d:prop><d:status>HTTP/1.1 200 OK</d:status></d:propstat></d:response>\n"

unfoldable pub date_open : List ℕ
date_open = codes "</d:href><d:propstat><d:prop><d:getlastmodified>"

unfoldable pub entry_close : List ℕ
entry_close =
    codes "</d:getlastmodified><d:resourcetype/></d:prop>"
    ++ codes "<d:status>HTTP/1.1 200 OK</d:status></d:propstat></d:response>\n"

unfoldable pub ending : List ℕ
ending = codes "</d:multistatus>\n"

-- ---- the lines

-- the lines that stand for the folder itself, before a rest
abbrev pub folder_lines : Dir → List ℕ → List ℕ
folder_lines dir rest = heading ++ (href_open ++ (dir_target dir ++ (folder_close ++ rest)))

-- the first half of a file's line, before a rest
abbrev pub with_name : Dir → List ℕ → List ℕ → List ℕ
with_name dir name rest = href_open ++ (dir_target dir ++ (name ++ rest))

-- the second half of a file's line, before a rest
abbrev pub with_date : List ℕ → List ℕ → List ℕ
with_date date rest = date_open ++ (date ++ (entry_close ++ rest))

-- the line of a file, before a rest
abbrev pub with_line : Dir → List ℕ → List ℕ → List ℕ → List ℕ
with_line dir name date rest = with_name dir name (with_date date rest)

-- the lines of these files and the end, with their stamps as dates, rounded down to seconds
abbrev pub AreLines : Dir → List Entry → List ℕ → Type 0
AreLines dir [] text = text ≡ ending
AreLines dir (entry ∷ entries) text =
    (date : HttpDate) × (rest : List ℕ) × (unix_secs date ≡ entry.stamp / 1_000)
    × (text ≡ with_line dir (file_name entry.path) (date_text date) rest)
    × AreLines dir entries rest

-- the body that lists these files of the folder
abbrev pub IsMultistatus : Dir → List Entry → List ℕ → Type 0
IsMultistatus dir entries text = (rest : List ℕ) × (text ≡ folder_lines dir rest)
    × AreLines dir entries rest

-- ---- reading

-- whether a text has a `<`, which no file's name has
abbrev pub has_open : List ℕ → Bool
has_open text = list_any (λ b. b == 60) text

-- after the folder's target, the rest of the line of this file, which is of that folder and of a
-- whole second
pub record IsFileAt (dir : Dir) (entry : Entry) (text rest : List ℕ) : Type 0 where
  pub date : HttpDate
  pub stamp : entry.stamp ≡ unix_secs date * 1_000
  pub line : text ≡ file_name entry.path ++ with_date (date_text date) rest
  pub inside : dir_of entry.path ≡ dir
  pub path : IsPath entry.path

-- the text begins with the line of this file
abbrev pub IsLineOf : Dir → Entry → List ℕ → List ℕ → Type 0
IsLineOf dir entry text rest =
    (behind : List ℕ) × (text ≡ href_open ++ (dir_target dir ++ behind))
    × IsFileAt dir entry behind rest

-- the file comes after the one before it, by the texts of their paths
abbrev pub ComesAfter : Option Entry → Entry → Type 0
ComesAfter None entry = Unit {0}
ComesAfter (Some before) entry = path_cmp before.path entry.path ≡ Less

-- the lines of these files, which come after one before them, in rising order and so each once; and
-- the end
abbrev pub ReadsLines : Dir → Option Entry → List Entry → List ℕ → Type 0
ReadsLines dir before [] text = text ≡ ending
ReadsLines dir before (entry ∷ entries) text =
    (rest : List ℕ) × IsLineOf dir entry text rest × ComesAfter before entry
    × ReadsLines dir (Some entry) entries rest

-- the body from which these files are read
abbrev pub ReadsMultistatus : Dir → List Entry → List ℕ → Type 0
ReadsMultistatus dir entries text = (rest : List ℕ) × (text ≡ folder_lines dir rest)
    × ReadsLines dir None entries rest

-- files of the folder, with whole seconds, that come after the one before, in rising order and so
-- each once
abbrev pub AreListable : Dir → Option Entry → List Entry → Type 0
AreListable dir before [] = Unit {0}
AreListable dir before (entry ∷ entries) =
    (entry.stamp ≡ entry.stamp / 1_000 * 1_000) × (dir_of entry.path ≡ dir) × IsPath entry.path
    × ComesAfter before entry
    × AreListable dir (Some entry) entries
