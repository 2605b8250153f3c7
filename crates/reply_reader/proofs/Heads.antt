-- What no head tells.
use Rattle.std.proofs.Common.{ℕ, List, Bool, true, false, cond, Option, Some, None, sym, subst}
use Rattle.std.specs.Prelude.{nat_lt, ◌||◌, not, codes, length}
use Rattle.jop_target.specs.declared.call.Call.{Call}
use Rattle.dav_parts.specs.Fields.{Fields, values_of}
use Rattle.dav_wire.specs.HeadReading.{HeadTells}
use Rattle.dav_wire.specs.Requests.{is_none}
use Rattle.dav_wire.specs.ResponseFrames.{frame_of, frame_from, now_of, outcome_of, body_count}
use Rattle.dav_wire.specs.ResponseReading.{fields_of}
use Rattle.dav_wire.specs.declared.frame.Frame.{Frame}
use Rattle.dav_wire.specs.declared.frame.Frame.TheVariants.{Unreadable, TooLong, Body}
use Rattle.dav_wire.specs.declared.outcome.Outcome.{Outcome}
use Rattle.dav_wire.specs.declared.outcome.Outcome.TheVariants.{Listing, Content, Blob, Absent, Done, Other}
use Rattle.httparse.specs.Grammar.{status_code}

-- it isn't a body that tells nothing
abbrev IsFine : Frame → Type 0
IsFine (Body now Other count) = ⊥
IsFine frame = Unit {0}

limited : (b : Bool) (now : ℕ) (o : Outcome) (count : ℕ) → IsFine (Body now o count)
    → IsFine (cond b (TooLong count) (Body now o count))
limited true now o count fine = tt
limited false now o count fine = fine

from_fine : (now : Option ℕ) (o : Outcome) (count : Option ℕ) → IsFine (frame_from now o count)
from_fine (Some now) Other (Some count) = tt
from_fine (Some now) (Listing dir) (Some count) = tt
from_fine (Some now) (Content limit) (Some count) =
    limited (nat_lt limit count) now (Content limit) count tt
from_fine (Some now) Blob (Some count) = limited (nat_lt 67108864 count) now Blob count tt
from_fine (Some now) Absent (Some count) = tt
from_fine (Some now) Done (Some count) = tt
from_fine (Some now) (Listing dir) None = tt
from_fine (Some now) (Content limit) None = tt
from_fine (Some now) Blob None = tt
from_fine (Some now) Absent None = tt
from_fine (Some now) Done None = tt
from_fine (Some now) Other None = tt
from_fine None o count = tt

either_fine : (b : Bool) (f : Frame) → IsFine f → IsFine (cond b Unreadable f)
either_fine true f fine = tt
either_fine false f fine = fine

frame_fine : (call : Call) (status : ℕ) (fields : Fields) → IsFine (frame_of call status fields)
unfolding frame_of
frame_fine call status fields =
    either_fine (nat_lt 128 (length fields) || not (is_none (values_of (codes "transfer-encoding") fields)))
    (frame_from (now_of (values_of (codes "date") fields)) (outcome_of call status)
    (body_count status fields))
    (from_fine (now_of (values_of (codes "date") fields)) (outcome_of call status)
    (body_count status fields))

pub no_other : (call : Call) (bytes rest : List ℕ) (now count len : ℕ)
    → HeadTells call bytes rest (Body now Other count) len → ⊥
no_other call bytes rest now count len h =
    subst IsFine (sym h.tells) (frame_fine call (status_code h.head) (fields_of h.head))
