use Rattle.std.proofs.Common.{rules, Some}
use Rattle.item_text.specs.declared.item.Item.{Item}
use Rattle.item_kinds.specs.Slots.{Given, given, note_slots}
use Rattle.item_kinds.proofs.NewItems.{AreFields, given_fields, id_field, is_new, note_table, time_field, with_parent}
use Rattle.item_kinds.proofs.new_items.note_item.Goals as goal

pub returns : goal.returns
returns c =
    let g : Given =
    record (given c.as_str.result.now c.as_str-3.result.now) { parent = c.as_str-2.result.now } in
    let bare = given_fields _ _ (id_field _ _ c.as_str.ensures.same c.as_str.ensures.digits)
    (time_field _ _ c.args.now c.as_str-3.ensures c.in_ok-stamp.ensures.written c.requires.time)
    in
    let fields : AreFields g = with_parent _ _ bare
    (id_field _ _ c.as_str-2.ensures.same c.as_str-2.ensures.digits) in
    let item : Item =
    record { title = Some c.args.title; body = c.args.body; props = c.in_ok-props.props } in
    let new = is_new note_slots g 1 item _ note_table c.in_ok-props.ensures fields
    c.as_str.ensures.same c.requires.title.no_feed tt in
    record {
      made = search rules;
      valid = new.valid;
      kind = new.kind;
      id = (new.id, c.as_str.ensures.digits);
    }
