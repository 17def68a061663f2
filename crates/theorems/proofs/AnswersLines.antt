-- One answer for every public function of `lines`, and nothing asked of its caller (specs/One.antt). The checker has no reading of the two over the trace reader, which holds
-- a slice: there the promise is written out, shown to be what the clauses say, and has one answer. Assumes nothing.
use mathlib.Core.Path.{◌≡◌, refl, sym, ◌∙◌}
use mathlib.Core.Bool.{true}
use mathlib.Core.List.{List}
use Prim.Native.Nat.{ℕ}
use Rattle.lines.specs.Wrote.{Wrote}
use Rattle.lines.specs.Span.{span_of}
use Rattle.lines.specs.contracts.held.span_at as held-span_at
use Rattle.lines.proofs.held.span_at.Reads as held-span_at-reads
use Rattle.lines.specs.contracts.held.span_from as held-span_from
use Rattle.lines.proofs.held.span_from.Reads as held-span_from-reads
use Rattle.lines.specs.contracts.lengths.decimal_len as lengths-decimal_len
use Rattle.lines.proofs.lengths.decimal_len.Reads as lengths-decimal_len-reads
use Rattle.lines.specs.contracts.lengths.number_line_len as lengths-number_line_len
use Rattle.lines.proofs.lengths.number_line_len.Reads as lengths-number_line_len-reads
use Rattle.lines.specs.contracts.lengths.hex_line_len as lengths-hex_line_len
use Rattle.lines.proofs.lengths.hex_line_len.Reads as lengths-hex_line_len-reads
use Rattle.lines.specs.contracts.lengths.flag_line_len as lengths-flag_line_len
use Rattle.lines.proofs.lengths.flag_line_len.Reads as lengths-flag_line_len-reads
use Rattle.lines.specs.contracts.lengths.word_line_len as lengths-word_line_len
use Rattle.lines.proofs.lengths.word_line_len.Reads as lengths-word_line_len-reads
use Rattle.lines.specs.contracts.put.put_byte as put-put_byte
use Rattle.lines.proofs.put.put_byte.Reads as put-put_byte-reads
use Rattle.lines.specs.contracts.put.put_bytes as put-put_bytes
use Rattle.lines.proofs.put.put_bytes.Reads as put-put_bytes-reads
use Rattle.lines.specs.contracts.put.put_decimal as put-put_decimal
use Rattle.lines.proofs.put.put_decimal.Reads as put-put_decimal-reads
use Rattle.lines.specs.contracts.put.put_hex as put-put_hex
use Rattle.lines.proofs.put.put_hex.Reads as put-put_hex-reads
use Rattle.lines.specs.contracts.put.put_flag as put-put_flag
use Rattle.lines.proofs.put.put_flag.Reads as put-put_flag-reads
use Rattle.lines.specs.contracts.put.put_word as put-put_word
use Rattle.lines.proofs.put.put_word.Reads as put-put_word-reads
use Rattle.lines.specs.contracts.put.put_number_line as put-put_number_line
use Rattle.lines.proofs.put.put_number_line.Reads as put-put_number_line-reads
use Rattle.lines.specs.contracts.put.put_hex_line as put-put_hex_line
use Rattle.lines.proofs.put.put_hex_line.Reads as put-put_hex_line-reads
use Rattle.lines.specs.contracts.put.put_flag_line as put-put_flag_line
use Rattle.lines.proofs.put.put_flag_line.Reads as put-put_flag_line-reads
use Rattle.lines.specs.contracts.put.put_word_line as put-put_word_line
use Rattle.lines.proofs.put.put_word_line.Reads as put-put_word_line-reads
use Rattle.lines.specs.contracts.read.line_at as read-line_at
use Rattle.lines.proofs.read.line_at.Reads as read-line_at-reads
use Rattle.lines.specs.contracts.read.number_field as read-number_field
use Rattle.lines.proofs.read.number_field.Reads as read-number_field-reads
use Rattle.lines.specs.contracts.read.word_field as read-word_field
use Rattle.lines.proofs.read.word_field.Reads as read-word_field-reads
use Rattle.lines.specs.contracts.read.hex_field as read-hex_field
use Rattle.lines.proofs.read.hex_field.Reads as read-hex_field-reads
use Rattle.lines.specs.contracts.read.text_end as read-text_end
use Rattle.lines.proofs.read.text_end.Reads as read-text_end-reads
use Rattle.lines.specs.contracts.value.decimal as value-decimal
use Rattle.lines.proofs.value.decimal.Reads as value-decimal-reads
use Rattle.lines.specs.contracts.value.word as value-word
use Rattle.lines.proofs.value.word.Reads as value-word-reads
use Rattle.lines.specs.contracts.value.hex as value-hex
use Rattle.lines.proofs.value.hex.Reads as value-hex-reads
use Rattle.lines.specs.contracts.held.new as held-new
use Rattle.lines.specs.contracts.held.line_here as held-line_here
use Rattle.lines.specs.contracts.put.put_seconds_line as put-put_seconds_line
use Rattle.lines.proofs.put.put_seconds_line.Reads as put-put_seconds_line-reads
use Rattle.theorems.specs.One.{Out, Any, One, OneLeft, Says, AsksNothing}

-- what `Wrote` says of a place and a buffer, no other place and buffer meet
pub wrote_once : {d e f : List ℕ} {at x y : ℕ} {t : List ℕ} → Wrote d e at t x → Wrote d f at t y → (x ≡ y) × (e ≡ f)
wrote_once p q = (p.next ∙ sym q.next, p.bytes ∙ sym q.bytes)

pub one-held-span_at : One held-span_at.ended held-span_at-reads.Post
one-held-span_at κs a x y e f p q = p ∙ sym q

pub any-held-span_at : Any held-span_at.ended held-span_at-reads.Asked
any-held-span_at κs a = tt

pub one-held-span_from : One held-span_from.ended held-span_from-reads.Post
one-held-span_from κs a x y e f p q = p ∙ sym q

pub any-held-span_from : Any held-span_from.ended held-span_from-reads.Asked
any-held-span_from κs a = tt

pub one-lengths-decimal_len : One lengths-decimal_len.ended lengths-decimal_len-reads.Post
one-lengths-decimal_len κs a x y e f p q = p.0 ∙ sym q.0

pub any-lengths-decimal_len : Any lengths-decimal_len.ended lengths-decimal_len-reads.Asked
any-lengths-decimal_len κs a = tt

pub one-lengths-number_line_len : One lengths-number_line_len.ended lengths-number_line_len-reads.Post
one-lengths-number_line_len κs a x y e f p q = p ∙ sym q

pub any-lengths-number_line_len : Any lengths-number_line_len.ended lengths-number_line_len-reads.Asked
any-lengths-number_line_len κs a = tt

pub one-lengths-hex_line_len : One lengths-hex_line_len.ended lengths-hex_line_len-reads.Post
one-lengths-hex_line_len κs a x y e f p q = p ∙ sym q

pub any-lengths-hex_line_len : Any lengths-hex_line_len.ended lengths-hex_line_len-reads.Asked
any-lengths-hex_line_len κs a = tt

pub one-lengths-flag_line_len : One lengths-flag_line_len.ended lengths-flag_line_len-reads.Post
one-lengths-flag_line_len κs a x y e f p q = p true ∙ sym (q true)

pub any-lengths-flag_line_len : Any lengths-flag_line_len.ended lengths-flag_line_len-reads.Asked
any-lengths-flag_line_len κs a = tt

pub one-lengths-word_line_len : One lengths-word_line_len.ended lengths-word_line_len-reads.Post
one-lengths-word_line_len κs a x y e f p q = p ∙ sym q

pub any-lengths-word_line_len : Any lengths-word_line_len.ended lengths-word_line_len-reads.Asked
any-lengths-word_line_len κs a = tt

pub one-put-put_byte : OneLeft put-put_byte.ended put-put_byte-reads.Post (λ κs e. e.0.now)
one-put-put_byte κs a x y e f p q = wrote_once p q

pub any-put-put_byte : Any put-put_byte.ended put-put_byte-reads.Asked
any-put-put_byte κs a = tt

pub one-put-put_bytes : OneLeft put-put_bytes.ended put-put_bytes-reads.Post (λ κs e. e.0.now)
one-put-put_bytes κs a x y e f p q = wrote_once p q

pub any-put-put_bytes : Any put-put_bytes.ended put-put_bytes-reads.Asked
any-put-put_bytes κs a = tt

pub one-put-put_decimal : OneLeft put-put_decimal.ended put-put_decimal-reads.Post (λ κs e. e.0.now)
one-put-put_decimal κs a x y e f p q = wrote_once p q

pub any-put-put_decimal : Any put-put_decimal.ended put-put_decimal-reads.Asked
any-put-put_decimal κs a = tt

pub one-put-put_hex : OneLeft put-put_hex.ended put-put_hex-reads.Post (λ κs e. e.0.now)
one-put-put_hex κs a x y e f p q = wrote_once p q

pub any-put-put_hex : Any put-put_hex.ended put-put_hex-reads.Asked
any-put-put_hex κs a = tt

pub one-put-put_flag : OneLeft put-put_flag.ended put-put_flag-reads.Post (λ κs e. e.0.now)
one-put-put_flag κs a x y e f p q = wrote_once p q

pub any-put-put_flag : Any put-put_flag.ended put-put_flag-reads.Asked
any-put-put_flag κs a = tt

pub one-put-put_word : OneLeft put-put_word.ended put-put_word-reads.Post (λ κs e. e.0.now)
one-put-put_word κs a x y e f p q = wrote_once p q

pub any-put-put_word : Any put-put_word.ended put-put_word-reads.Asked
any-put-put_word κs a = tt

pub one-put-put_number_line : OneLeft put-put_number_line.ended put-put_number_line-reads.Post (λ κs e. e.0.now)
one-put-put_number_line κs a x y e f p q = wrote_once p q

pub any-put-put_number_line : Any put-put_number_line.ended put-put_number_line-reads.Asked
any-put-put_number_line κs a = tt

pub one-put-put_hex_line : OneLeft put-put_hex_line.ended put-put_hex_line-reads.Post (λ κs e. e.0.now)
one-put-put_hex_line κs a x y e f p q = wrote_once p q

pub any-put-put_hex_line : Any put-put_hex_line.ended put-put_hex_line-reads.Asked
any-put-put_hex_line κs a = tt

pub one-put-put_flag_line : OneLeft put-put_flag_line.ended put-put_flag_line-reads.Post (λ κs e. e.0.now)
one-put-put_flag_line κs a x y e f p q = wrote_once p q

pub any-put-put_flag_line : Any put-put_flag_line.ended put-put_flag_line-reads.Asked
any-put-put_flag_line κs a = tt

pub one-put-put_word_line : OneLeft put-put_word_line.ended put-put_word_line-reads.Post (λ κs e. e.0.now)
one-put-put_word_line κs a x y e f p q = wrote_once p q

pub any-put-put_word_line : Any put-put_word_line.ended put-put_word_line-reads.Asked
any-put-put_word_line κs a = tt

pub one-read-line_at : One read-line_at.ended read-line_at-reads.Post
one-read-line_at κs a x y e f p q = p.0 ∙ sym q.0

pub any-read-line_at : Any read-line_at.ended read-line_at-reads.Asked
any-read-line_at κs a = tt

pub one-read-number_field : One read-number_field.ended read-number_field-reads.Post
one-read-number_field κs a x y e f p q = p.0 ∙ sym q.0

pub any-read-number_field : Any read-number_field.ended read-number_field-reads.Asked
any-read-number_field κs a = tt

pub one-read-word_field : One read-word_field.ended read-word_field-reads.Post
one-read-word_field κs a x y e f p q = p.0 ∙ sym q.0

pub any-read-word_field : Any read-word_field.ended read-word_field-reads.Asked
any-read-word_field κs a = tt

pub one-read-hex_field : OneLeft read-hex_field.ended read-hex_field-reads.Post (λ κs e. e.1.1.1.0.now)
one-read-hex_field κs a x y e f p q = (p.0 ∙ sym q.0, p.1.1 ∙ sym q.1.1)

pub any-read-hex_field : Any read-hex_field.ended read-hex_field-reads.Asked
any-read-hex_field κs a = tt

pub one-read-text_end : One read-text_end.ended read-text_end-reads.Post
one-read-text_end κs a x y e f p q = p ∙ sym q

pub any-read-text_end : Any read-text_end.ended read-text_end-reads.Asked
any-read-text_end κs a = tt

pub one-value-decimal : One value-decimal.ended value-decimal-reads.Post
one-value-decimal κs a x y e f p q = p ∙ sym q

pub any-value-decimal : Any value-decimal.ended value-decimal-reads.Asked
any-value-decimal κs a = tt

pub one-value-word : One value-word.ended value-word-reads.Post
one-value-word κs a x y e f p q = p ∙ sym q

pub any-value-word : Any value-word.ended value-word-reads.Asked
any-value-word κs a = tt

pub one-value-hex : OneLeft value-hex.ended value-hex-reads.Post (λ κs e. e.1.0.now)
one-value-hex κs a x y e f p q = (p.0 ∙ sym q.0, p.1 ∙ sym q.1)

pub any-value-hex : Any value-hex.ended value-hex-reads.Asked
any-value-hex κs a = tt

-- it makes a struct that holds a slice
abbrev promised-held-new : Out held-new.ended
promised-held-new κs a x e = (x.text ≡ a.0) × (x.at ≡ a.1.0)

pub says-held-new : Says held-new.ended (λ M 𝓤 𝓛. held-new.clauses 𝓛) promised-held-new
says-held-new M 𝓤 𝓛 mem run κs a g x e = refl

pub one-held-new : One held-new.ended promised-held-new
one-held-new κs a x y e f p q = λ i. record { text = (p.0 ∙ sym q.0) i; at = (p.1 ∙ sym q.1) i }

pub any-held-new : AsksNothing held-new.ended (λ M 𝓤 𝓛. held-new.clauses 𝓛)
any-held-new M 𝓤 𝓛 mem run κs a g = refl

-- it takes a struct that holds a slice
abbrev promised-held-line_here : Out held-line_here.ended
promised-held-line_here κs a x e = x ≡ span_of a.0.text.now a.0.at

pub says-held-line_here : Says held-line_here.ended (λ M 𝓤 𝓛. held-line_here.clauses 𝓛) promised-held-line_here
says-held-line_here M 𝓤 𝓛 mem run κs a g x e = refl

pub one-held-line_here : One held-line_here.ended promised-held-line_here
one-held-line_here κs a x y e f p q = p ∙ sym q

pub any-held-line_here : AsksNothing held-line_here.ended (λ M 𝓤 𝓛. held-line_here.clauses 𝓛)
any-held-line_here M 𝓤 𝓛 mem run κs a g = refl

pub one-put-put_seconds_line : OneLeft put-put_seconds_line.ended put-put_seconds_line-reads.Post (λ κs e. e.0.now)
one-put-put_seconds_line κs a x y e f p q = wrote_once p q

pub any-put-put_seconds_line : Any put-put_seconds_line.ended put-put_seconds_line-reads.Asked
any-put-put_seconds_line κs a = tt
