-- The other members of a record that is made.
use Rattle.std.proofs.Common.{◌≡◌, ℕ, ◌<◌, ◌≤◌, ◌^◌, false, List, [], codes, decimal, refl, sym, ap, ◌∙◌, arith}
use Rattle.std.specs.Cmp.Lexicographic.{slice_cmp}
use Rattle.std.specs.List.Sorted.{IsStrictlySortedBy}
use Rattle.jop_base.specs.Id.{IsIdText}
use Rattle.jop_base.specs.Times.{last_time}
use Rattle.json.specs.Print.{escape_byte}
use Rattle.new_keys.specs.Made.{made_members}
use Rattle.serde_json.specs.Data.{Data, depth, number, string, unsigned}
use Rattle.serde_json.specs.Read.{max_depth, read}
use Rattle.serde_json.specs.Written.{compact_text, has_float}
use Rattle.sync_info.proofs.Compact.{read-compact_text}
use Rattle.sync_info.proofs.Sound.{IsSound}
use Rattle.sync_info.specs.Info.{IsCompact, IsKeyRecord}

compact : (json : List ℕ) (value : Data) → compact_text value ≡ json → IsSound value → has_float value ≡ false
    → depth value ≤ 124 → IsCompact 124 json
compact json value is sound whole shallow = record {
  value = value;
  reads = ap read (sym is) ∙ read-compact_text value sound whole (omega (arith, shallow));
  compact = is;
  whole = whole;
  shallow = shallow;
}

-- a record with them is valid
pub record_kept : (id content : List ℕ) (now : ℕ) → IsIdText id → now ≤ last_time
    → IsKeyRecord (record { id = id; content = content; updated = now; others = made_members now })
unfolding IsStrictlySortedBy escape_byte
record_kept id content now is time = record {
  id = is;
  updated = time;
  others = record {
    foreign = (refl, (refl, (refl, (refl, tt))));
    sorted = ((refl, (refl, (refl, tt))), ((refl, (refl, tt)), ((refl, tt), (tt, tt))));
    compact = (
      compact (codes "\"\"") (string []) refl tt refl (omega arith),
      (
        compact (decimal now) (number (unsigned now)) refl (omega (arith, time)) refl (omega arith),
        (
          compact (decimal 4) (number (unsigned 4)) refl (omega arith) refl (omega arith),
          (compact (codes "\"jop\"") (string (codes "jop")) refl tt refl (omega arith), tt),
        ),
      ),
    );
  };
}
