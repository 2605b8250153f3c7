-- The targets of requests: the files and folders that they name, and the methods by which each call
-- is sent.
use Rattle.std.specs.Prelude.{ℕ, Bool, ◌&&◌, ◌==◌, List, ◌∷◌, length, take, drop, codes, Option, Some, None, if◌then◌else◌, bytes_eq}
use Rattle.std.specs.List.{list_all}
use Rattle.jop_base.specs.Id.{is_digit}
use Rattle.jop_base.specs.Paths.{path_text, dir_prefix}
use Rattle.jop_base.specs.declared.dir.Dir.{Dir}
use Rattle.jop_base.specs.declared.path.Path.{Path}
use Rattle.jop_base.specs.declared.path.Path.TheVariants.{Blob}
use Rattle.jop_target.specs.declared.call.Call.{Call}
use Rattle.jop_target.specs.declared.call.Call.TheVariants as calls
use Rattle.dav_parts.specs.declared.method.Method.{Method}
use Rattle.dav_parts.specs.declared.method.Method.TheVariants as methods

-- ---- methods

-- the name of a method (RFC 9110, 9.3, and RFC 4918, 9)
abbrev pub method_text : Method → List ℕ
method_text methods.List = codes "PROPFIND"
method_text methods.Get = codes "GET"
method_text methods.Put = codes "PUT"
method_text methods.Delete = codes "DELETE"
method_text methods.MakeDir = codes "MKCOL"

-- the method of a name, which has its case
abbrev pub method_in : List ℕ → Option Method
method_in text =
    if bytes_eq text (codes "PROPFIND") then Some methods.List
    else (if bytes_eq text (codes "GET") then Some methods.Get
    else (if bytes_eq text (codes "PUT") then Some methods.Put
    else (if bytes_eq text (codes "DELETE") then Some methods.Delete
    else (if bytes_eq text (codes "MKCOL") then Some methods.MakeDir else None))))

-- the method by which a call is sent
abbrev pub method_of : Call → Method
method_of (calls.List dir) = methods.List
method_of (calls.Get path) = methods.Get
method_of (calls.Put path content) = methods.Put
method_of (calls.Delete path) = methods.Delete
method_of (calls.MakeDir dir) = methods.MakeDir
method_of (calls.GetBlob id) = methods.Get
method_of (calls.PutBlob id len) = methods.Put

-- ---- targets

-- a slash and the file's name on the target
abbrev pub path_target : Path → List ℕ
path_target path = 47 ∷ path_text path

-- a folder's target has a slash at its end too; the root's is one slash
abbrev pub dir_target : Dir → List ℕ
dir_target dir = 47 ∷ dir_prefix dir

-- what a call is sent to
abbrev pub target_of : Call → List ℕ
target_of (calls.List dir) = dir_target dir
target_of (calls.Get path) = path_target path
target_of (calls.Put path content) = path_target path
target_of (calls.Delete path) = path_target path
target_of (calls.MakeDir dir) = dir_target dir
target_of (calls.GetBlob id) = path_target (Blob id)
target_of (calls.PutBlob id len) = path_target (Blob id)

-- whether the target names a blob
abbrev pub is_blob_target : List ℕ → Bool
is_blob_target target =
    bytes_eq (take 11 target) (codes "/.resource/")
    && ((length target == 43) && list_all is_digit (drop 11 target))

-- The most bytes that are put to the target: 64 MiB for a blob, and 16 MiB for any other, also one
-- that names no file.
abbrev pub put_limit : List ℕ → ℕ
put_limit target = if is_blob_target target then 67_108_864 else 16_777_216
