-- How long the lines of where the limit stands are at most. Assumes nothing.
use Prim.Native.Nat.{ℕ, ◌+◌, ◌-◌, ◌/◌, ◌^◌, ◌≤◌, ◌<◌}
use mathlib.Core.Path.{◌≡◌}
use mathlib.Core.List.{List}
use native.Mathlib.Omega.{arith}
use lib.ListN.{length, length-append}
use Rattle.slices.specs.Bytes.{bytes}
use Rattle.lines.specs.Decimal.{decimal}
use Rattle.lines.specs.Line.{number_line, hex_line, seconds_line}
use Rattle.lines.proofs.put.DecimalLaws.{decimal_short, decimal_20}
use Rattle.lines.proofs.lengths.LineLaws.{number_line-length, hex_line-length, seconds_line-length}
use Rattle.topics.specs.Shown.{shown}
use Rattle.topics.proofs.shown.ShownLaws.{shown-length}
use Rattle.tables.specs.declared.standing.Opening.{Opening}
use Rattle.tables.specs.declared.standing.Opening.TheVariants.{Never, From}
use Rattle.monitor.specs.Standing.{Left, Outlook}
use Rattle.trace.specs.Standing.{name_text, opening_text, tokens_of, topic_text}

-- the opening's time, where it has one, has 64 bits
abbrev pub OpensWithin : Opening → Type 0
OpensWithin Never = Unit {0}
OpensWithin (From u) = u < 2 ^ 64

name_length : (key topic : List ℕ) → length (name_text key topic) ≡ length (hex_line key topic) + 5 + length (shown topic) + 1
unfolding name_text
name_length key topic = simp length-append

pub name_short : (key topic : List ℕ) → length key ≤ 6 → length topic ≤ 128 → length (name_text key topic) ≤ 397
name_short key topic h g = omega (arith, name_length key topic, hex_line-length key topic, shown-length topic)

never_length : (key : List ℕ) (last : ℕ) → length (opening_text key last Never) ≡ length key + 6 + 11
unfolding opening_text
never_length key last = simp length-append

from_length : (key : List ℕ) (last u : ℕ) → length (opening_text key last (From u)) ≡ length (number_line key u) + length (seconds_line (bytes "wait=") (u - last))
unfolding opening_text
from_length key last u = simp length-append

pub opening_short : (key : List ℕ) (last : ℕ) (o : Opening) → length key ≤ 5 → OpensWithin o → length (opening_text key last o) ≤ 53
opening_short key last Never h w = omega (arith, never_length key last)
opening_short key last (From u) h w =
    let p = decimal_20 u w in
    let q = decimal_short 13 ((u - last) / 1000000) (omega (arith, w)) in
    omega (arith, from_length key last u, number_line-length key u, seconds_line-length (bytes "wait=") (u - last))

number_short : (key : List ℕ) (n d : ℕ) → length (decimal n) ≤ d → length (number_line key n) ≤ length key + d + 1
number_short key n d h = omega (arith, number_line-length key n)

module _ (topic : List ℕ) (o : Outlook) (l : Left) (last : ℕ) where
  topic-length : length (topic_text topic o l last) ≡ length (name_text (bytes "topic=") topic) + length (number_line (bytes "rate=") o.rate)
      + length (number_line (bytes "tokens=") (tokens_of l)) + length (number_line (bytes "kind=") o.kind) + length (opening_text (bytes "from=") last o.opening)
  unfolding topic_text
  topic-length = simp length-append

  pub topic_short : length topic ≤ 128 → o.rate < 65536 → tokens_of l ≤ 65536 → o.kind < 2 ^ 32 → length (opening_text (bytes "from=") last o.opening) ≤ 53
      → length (topic_text topic o l last) ≤ 490
  topic_short a b c d s =
      let n = name_short (bytes "topic=") topic (omega arith) a in
      let p = number_short (bytes "rate=") o.rate 5 (decimal_short 4 _ (omega (arith, b))) in
      let q = number_short (bytes "tokens=") (tokens_of l) 5 (decimal_short 4 _ (omega (arith, c))) in
      let r = number_short (bytes "kind=") o.kind 10 (decimal_short 9 _ (omega (arith, d))) in
      omega (arith, topic-length)
