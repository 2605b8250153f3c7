-- What one sees of a client's calls by its trail alone.
use Rattle.std.specs.Prelude.{List, [], ◌∷◌, Some, None}
use Rattle.jop_target.specs.declared.event.Event.{Event}
use Rattle.jop_target.specs.declared.event.Event.TheVariants.{Began, Sent, Called, Made, Ended}
use Rattle.law_licences.specs.Views.{Heard, with_call}

-- the calls that are remembered after an event
abbrev pub calls_after : List Heard → Event → List Heard
calls_after calls Began = []
calls_after calls (Sent call) = with_call call None calls
calls_after calls (Called call reply) = with_call call (Some reply) calls
calls_after calls (Made number) = calls
calls_after calls Ended = []

unfoldable pub calls_from : List Heard → List Event → List Heard
calls_from calls [] = calls
calls_from calls (e ∷ es) = calls_from (calls_after calls e) es

-- the calls of a trail's last session but those about locks, the last one first
abbrev pub session_calls : List Event → List Heard
session_calls trail = calls_from [] trail
