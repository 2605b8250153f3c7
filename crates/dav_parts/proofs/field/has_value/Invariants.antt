use Rattle.std.proofs.Common.{◌≡◌, map, take}
use Rattle.std.specs.List.{list_any}
use Rattle.httparse.specs.Spans.{header_bytes}
use Rattle.dav_parts.specs.Fields.{is_same_name, values_of}
use Rattle.dav_parts.proofs.field.has_value.Given as goal

abbrev pub invariant-loop-field : goal.invariant-loop-field
invariant-loop-field l = l.found ≡ list_any (is_same_name l.value)
    (values_of l.name (map (header_bytes l.text) (take l.field-index l.fields)))
