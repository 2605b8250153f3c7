use Rattle.std.proofs.Common.{map, take}
use Rattle.httparse.specs.Spans.{header_bytes}
use Rattle.dav_parts.specs.Fields.{values_of, AreValues}
use Rattle.dav_parts.proofs.field.field_value.Given as goal

abbrev pub invariant-loop-field : goal.invariant-loop-field
invariant-loop-field l = AreValues l.found
    (values_of l.name (map (header_bytes l.text) (take l.field-index l.fields)))
