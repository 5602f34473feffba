use Rattle.std.proofs.Common.{◌≡◌, ◌≤◌, map, vec_items, vec_len, vec_capacity}
use Rattle.std.specs.List.{range_with_len}
use Rattle.chart.specs.Records.{row_of}
use Rattle.chart.specs.Files.{file_row}
use Rattle.chart.proofs.filed.open.read_records.Given as goal

abbrev pub invariant-loop-mode : goal.invariant-loop-mode
invariant-loop-mode l =
    (256 ≤ vec_capacity l.records)
    × ((vec_len l.records ≡ l.mode) × (map (row_of l.header.marks) (vec_items l.records) ≡ map (file_row l.file) (range_with_len 0 l.mode)))
