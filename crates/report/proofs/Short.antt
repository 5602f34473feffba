-- Each line of a report has at most 100 bytes.
use Rattle.std.proofs.Common.{ℕ, ◌^◌, ◌<◌, ◌≤◌, length, arith, lit≤, length-append}
use Rattle.ctl.specs.declared.rule.Verdict.{Verdict}
use Rattle.ctl.specs.declared.rule.Verdict.TheVariants.{Yes, No, Pending}
use Rattle.basis.proofs.Figures.{count-bound}
use Rattle.report.specs.Reports.{word_of, heading_line, entry_line, total_line}

pub heading-short : (modes marks start : ℕ) → modes < 2 ^ 64 → marks < 2 ^ 64 → start < 2 ^ 64 → length (heading_line modes marks start) ≤ 100
heading-short modes marks start a b d =
    let x = count-bound modes a in
    let y = count-bound marks b in
    let z = count-bound start d in
    simp length-append (omega arith)

word-short : (answer : Verdict) → length (word_of answer) ≤ 7
word-short Yes = lit≤ tt
word-short No = lit≤ tt
word-short Pending = lit≤ tt

pub entry-short : (number line : ℕ) (answer : Verdict) (rounds : ℕ) → number < 2 ^ 64 → line < 2 ^ 64 → rounds < 2 ^ 64 → length (entry_line number line answer rounds) ≤ 100
entry-short number line answer rounds a b d =
    let x = count-bound number a in
    let y = count-bound line b in
    let z = count-bound rounds d in
    let w = word-short answer in
    simp length-append (omega arith)

pub total-short : (rounds most : ℕ) → rounds < 2 ^ 64 → most < 2 ^ 64 → length (total_line rounds most) ≤ 100
total-short rounds most a b =
    let x = count-bound rounds a in
    let y = count-bound most b in
    simp length-append (omega arith)
