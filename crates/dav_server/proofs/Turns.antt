-- What a turn comes to.
use Rattle.std.proofs.Common.{◌≡◌, ◌⊎◌, ◌∙◌, refl, sym, subst, inl, inr, arith, ℕ, List, [], ◌++◌, Bool, true, false, Option, Some, None}
use Rattle.jop_outside.specs.Writing.{Appends, WasWritten, WasCut}
use Rattle.jop_target.specs.Trail.{LineNow}
use Rattle.jop_target.specs.declared.call.Call.{Call}
use Rattle.dav_link.specs.Links.{LinkNow, WritesAlone, TakesBytes, sink_of}
use Rattle.dav_link.specs.Receiving.{HasKept}
use Rattle.dav_parts.specs.declared.method.Method.{Method}
use Rattle.dav_parts.specs.declared.method.Method.TheVariants as methods
use Rattle.dav_parts.specs.Fields.{values_of}
use Rattle.dav_parts.specs.Targets.{method_in}
use Rattle.std.specs.Prelude.{codes, take, drop}
use Rattle.dav_wire.specs.ResponseTexts.{IsResponse}
use Rattle.dav_wire.specs.Requests.{IsDecided, is_one}
use Rattle.dav_wire.specs.RequestReading.{RequestReadsAs, fields_of}
use Rattle.dav_wire.specs.declared.request.Request.{Request}
use Rattle.dav_wire.specs.declared.request_reader.ReadRequest.{ReadRequest}
use Rattle.dav_wire.specs.declared.request_reader.ReadRequest.TheVariants.{Whole, More, Bad}
use Rattle.dav_server.specs.Hearing.{HasHeardRequest}
use Rattle.dav_server.specs.Serving.{Serves, HasTurned, HasAnother, HasNoOther, HasBrokenTurn, HasStarvedTurn, Responds, IsAnswerable, IsUntold, is_final}
use Rattle.dav_server.proofs.Served.{place_of}

-- ---- which calls may be made

decided_answerable : (method : Option Method) (one : Bool) (target body : List ℕ)
    (call : Option Call) (blob : List ℕ) (refusal : ℕ)
    → IsDecided method one target body call blob refusal → IsAnswerable call blob
decided_answerable method one target body None blob refusal h = tt
decided_answerable None one target body (Some call) blob refusal h = absurd h
decided_answerable (Some methods.List) true target body (Some call) blob refusal h = h.0.callable
decided_answerable (Some methods.List) false target body (Some call) blob refusal h = absurd h
decided_answerable (Some methods.Get) one target body (Some call) blob refusal h = h.0.callable
decided_answerable (Some methods.Put) one target body (Some call) blob refusal h = h.0.callable
decided_answerable (Some methods.Delete) one target body (Some call) blob refusal h = h.0.callable
decided_answerable (Some methods.MakeDir) one target body (Some call) blob refusal h =
    h.0.callable

pub whole_answerable : (bytes : List ℕ) (request : Request) (used : ℕ)
    → RequestReadsAs bytes (Whole request used) → IsAnswerable request.call request.blob
whole_answerable bytes request used h =
    decided_answerable (method_in h.0.method) (is_one (values_of (codes "depth") (fields_of h.0)))
    h.0.target (take h.3.0 h.1) request.call request.blob request.refusal h.3.3.meant

-- ---- a turn

pub no_other : (old new : LinkNow) (before after : List ℕ) (line : LineNow) (date : ℕ)
    → HasHeardRequest old before More new after → HasNoOther old new before line date after line date
no_other old new before after line date heard = record {
  bytes = heard.bytes;
  kept = heard.kept;
  more = heard.reads;
  ended = heard.ended refl;
  stands = refl;
  moment = refl;
}

turned : (old mid new : LinkNow) (before kept bytes : List ℕ) (line : LineNow) (date : ℕ)
    (read : ReadRequest) (text after : List ℕ) (end : LineNow) (last : ℕ)
    → HasKept old before mid kept bytes
    → Serves read (place_of kept line date) text (place_of after end last)
    → WritesAlone mid new
    → HasTurned old new before line date read text after end last
turned old mid new before kept bytes line date read text after end last held serves alone = record {
  bytes = bytes;
  serves = subst (λ (l : List ℕ).
      Serves read (place_of l line date) text (place_of after end last)) held.kept serves;
  left = subst (λ (w : Option (List ℕ)). TakesBytes old.left bytes w) (sym alone.left) held.read.left;
  opened = alone.opened ∙ held.read.alone.opened;
}

pub answered : (old mid new : LinkNow) (before kept bytes : List ℕ) (line : LineNow) (date : ℕ)
    (read : ReadRequest) (text after : List ℕ) (end : LineNow) (last : ℕ) (over : Bool)
    → HasKept old before mid kept bytes
    → Serves read (place_of kept line date) text (place_of after end last)
    → WasWritten (sink_of mid) text (sink_of new) → WritesAlone mid new → is_final read ≡ over
    → HasAnother old new before line date over after end last
answered old mid new before kept bytes line date read text after end last over held serves whole
    alone is = record {
      read = read;
      text = text;
      turned = turned old mid new before kept bytes line date read text after end last held serves
          alone;
      ends = is;
      written = subst (λ (w : Option (List ℕ)). Appends w text new.written)
          held.read.alone.written whole.whole;
      stays = whole.stays ∙ held.stays;
    }

pub cut : (old mid new : LinkNow) (before kept bytes : List ℕ) (line : LineNow) (date : ℕ)
    (read : ReadRequest) (text after : List ℕ) (end : LineNow) (last : ℕ)
    → HasKept old before mid kept bytes
    → Serves read (place_of kept line date) text (place_of after end last)
    → WasCut (sink_of mid) text (sink_of new) → WritesAlone mid new
    → HasBrokenTurn old new before line date end
cut old mid new before kept bytes line date read text after end last held serves part alone = record {
  read = read;
  sent = part.start;
  rest = part.rest;
  after = after;
  last = last;
  turned = turned old mid new before kept bytes line date read (part.start ++ part.rest) after end
      last held
      (subst (λ (l : List ℕ).
      Serves read (place_of kept line date) l (place_of after end last)) (sym part.split) serves)
      alone;
  written = subst (λ (w : Option (List ℕ)). Appends w part.start new.written)
      held.read.alone.written part.written;
  rose = let rose = part.rose in let same = held.stays in omega arith;
}

pub starved_first : (old mid : LinkNow) (before kept bytes : List ℕ) (line : LineNow)
    → HasKept old before mid kept bytes → HasStarvedTurn old mid before line line
starved_first old mid before kept bytes line held = record {
  bytes = bytes;
  read = held.read;
  stays = held.stays;
  made = inl refl;
}

pub starved_after : (old mid : LinkNow) (before kept bytes : List ℕ) (line end : LineNow)
    (request : Request) (used : ℕ) → HasKept old before mid kept bytes
    → RequestReadsAs kept (Whole request used)
    → (end ≡ line) ⊎ ((made : Call) × (request.call ≡ Some made)
    × IsUntold made request.blob line end)
    → HasStarvedTurn old mid before line end
starved_after old mid before kept bytes line end request used held reads (inl same) = record {
  bytes = bytes;
  read = held.read;
  stays = held.stays;
  made = inl same;
}
starved_after old mid before kept bytes line end request used held reads (inr made) = record {
  bytes = bytes;
  read = held.read;
  stays = held.stays;
  made = inr (
    made.0,
    request.blob,
    request,
    used,
    subst (λ (l : List ℕ). RequestReadsAs l (Whole request used)) held.kept reads,
    made.1,
    refl,
    made.2,
  );
}

-- ---- what is answered

pub bad_serves : (kept : List ℕ) (line : LineNow) (date status : ℕ) (text sent : List ℕ)
    → RequestReadsAs kept (Bad status) → IsResponse status date [] text → sent ≡ text
    → Serves (Bad status) (place_of kept line date) sent (place_of kept line date)
bad_serves kept line date status text sent reads response same = (
  reads,
  refl,
  subst (λ (l : List ℕ). IsResponse status date [] l) (sym same) response,
)

pub whole_serves : (kept : List ℕ) (line end : LineNow) (date last : ℕ) (request : Request)
    (used : ℕ) (text sent : List ℕ) → RequestReadsAs kept (Whole request used)
    → Responds request.call request.blob request.refusal line date text end last → sent ≡ text
    → Serves (Whole request used) (place_of kept line date) sent
    (place_of (drop used kept) end last)
whole_serves kept line end date last request used text sent reads answers same = (
  reads,
  refl,
  subst (λ (l : List ℕ).
      Responds request.call request.blob request.refusal line date l end last) (sym same) answers,
)

pub heard_as : (old new : LinkNow) (before after : List ℕ) (read other : ReadRequest)
    → HasHeardRequest old before read new after → read ≡ other → HasHeardRequest old before other new after
heard_as old new before after read other heard is =
    subst (λ (r : ReadRequest). HasHeardRequest old before r new after) is heard
