-- What a reader of a listing knows behind some bytes of its body.
use Rattle.std.specs.Prelude.{◌≡◌, ℕ, Bool, true, false, ◌⊎◌, List, ◌∷◌, [], ◌++◌, Option, Some, None, ◌&&◌, ◌||◌, not, count_by}
use Rattle.std.specs.List.{list_any}
use Rattle.jop_base.specs.declared.dir.Dir.{Dir}
use Rattle.jop_target.specs.declared.reply.Entry.{Entry}
use Rattle.dav_listing.specs.Listings.{AreClasses, IsClass, ListsFiles, files_among, is_folder_itself, is_wrong}
use Rattle.dav_listing.specs.Multistatus.{is_whole, one_on, progress_of}
use Rattle.dav_listing.specs.declared.class.Class.{Class}
use Rattle.dav_listing.specs.declared.class.Class.TheVariants.{Itself, File, Foreign, Wrong}
use Rattle.dav_listing.specs.declared.listing_reader.ListingReader.{ListingReader}
use Rattle.dav_listing.specs.declared.member.Member.{Member}

abbrev pub times : Bool → ℕ
times true = 1
times false = 0

-- of the resources so far none is wrong, these are the files, and the folder itself was shown or not yet
pub record AreFilesSoFar (dir : Dir) (folder : List ℕ) (members : List Member) (files : List Entry)
    (own : Bool) : Type 0 where
  pub classes : List Class
  pub told : AreClasses dir folder members classes
  pub sound : list_any is_wrong classes ≡ false
  pub own_is : count_by is_folder_itself classes ≡ times own
  pub files_are : files ≡ files_among classes

-- the reader has read all of these bytes
pub record FollowsBody (reader : ListingReader) (body : List ℕ) : Type 0 where
  pub sound : reader.wrong ≡ false
  pub there : reader.reader ≡ (progress_of body).reader
  pub files : AreFilesSoFar reader.dir reader.folder (progress_of body).members reader.files
      reader.own

-- the reader knows that no listing of the folder begins with these bytes
pub record HasGivenUp (reader : ListingReader) (body : List ℕ) : Type 0 where
  pub wrong : reader.wrong ≡ true
  pub none : (more : List ℕ) (entries : List Entry)
      → ¬ (ListsFiles reader.dir reader.folder (body ++ more) entries)

-- what the reader knows of a body that begins with these bytes
abbrev pub HasReadBody : ListingReader → List ℕ → Type 0
HasReadBody reader body = FollowsBody reader body ⊎ HasGivenUp reader body

-- whether nothing was wrong, the folder itself was shown, and the body may end here
abbrev pub is_complete : ListingReader → Bool
is_complete r = not r.wrong && (r.own && is_whole r.reader.mode r.reader.place)

-- it is another reader of the same folder
pub record ReadsSame (one other : ListingReader) : Type 0 where
  pub dir : other.dir ≡ one.dir
  pub folder : other.folder ≡ one.folder

-- the class of the resource that was shown, if one was
abbrev pub IsEndedClass : ListingReader → Option Member → Option Class → Type 0
IsEndedClass r None class = class ≡ None
IsEndedClass r (Some member) found =
    (class : Class) × IsClass r.dir r.folder member class × (found ≡ Some class)

-- what a reader knows once a resource of this class was shown
abbrev pub after_class : ListingReader → Option Class → ListingReader
after_class r None = r
after_class r (Some Itself) = record r { wrong = r.wrong || r.own; own = true }
after_class r (Some (File path stamp)) =
    record r { files = r.files ++ (record { path = path; stamp = stamp }) ∷ [] }
after_class r (Some Foreign) = r
after_class r (Some Wrong) = record r { wrong = true }

-- what a reader knows once this resource was shown, or none
abbrev pub TakesMember : ListingReader → Option Member → ListingReader → Type 0
TakesMember old ended new =
    (class : Option Class) × IsEndedClass old ended class × (new ≡ after_class old class)

-- what a reader knows one byte further; one that has given up looks at none
abbrev pub TakesByteIf : Bool → ListingReader → ℕ → ListingReader → Type 0
TakesByteIf true old b new = new ≡ old
TakesByteIf false old b new =
    TakesMember (record old { reader = one_on old.reader b }) (one_on old.reader b).ended new

abbrev pub TakesByte : ListingReader → ℕ → ListingReader → Type 0
TakesByte old b new = TakesByteIf old.wrong old b new
