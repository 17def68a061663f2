-- A settings text in another form and home again: what specs/HomeAgain.antt claims. What is written in a form of the monitor that a text loads to is the text of the same settings in that form, which
-- is accepted; and back in its own form it is the first text. Assumes nothing.
use Prim.Native.Nat.{ℕ, ◌+◌, ◌≤◌}
use mathlib.Core.Path.{◌≡◌, refl, sym, ap, ◌∙◌}
use mathlib.Core.Bool.{true}
use mathlib.Core.List.{List}
use native.Mathlib.Omega.{arith}
use lib.Dec.{eqb, leb}
use lib.ListN.{length}
use borrow.Author.Tests.{ne_eqb, le-leb}
use Rattle.laws.specs.Lists.{every}
use Rattle.laws.proofs.Cases.{by}
use Rattle.slices.specs.Bytes.{bytes, same}
use Rattle.topics.specs.declared.matching.Matching.TheVariants.{Port, Standard}
use Rattle.lines.specs.Field.{word_field}
use Rattle.lines.specs.Line.{word_line}
use Rattle.lines.specs.ReadWord.{word_of, word_index}
use Rattle.lines.specs.Word.{word_text, first_word, rest_words}
use Rattle.forms.specs.Form.{Took, took, stopped, on_took, renumbered, word_form, pair_form, map_form, numbered_form}
use Rattle.forms.specs.Stands.{Stands}
use Rattle.forms.proofs.FieldRound.{word_not_there}
use Rattle.forms.proofs.StandsLaws.{stands_first, stands_whole}
use Rattle.monitor.specs.State.{well_formed}
use Rattle.monitor.specs.declared.state.MqttMonitor.{MqttMonitor}
use Rattle.settings.specs.Convert.{form_meant, end_at, converted_end, convert_end, converted_kept, convert_kept, in_form}
use Rattle.settings.specs.HomeAgain.{Turns, ComesHome, SaysStandard, HomeAgain}
use Rattle.settings.specs.Loaded.{settings_text, text_refusal, unwritten, length_of, fitted, written_of, text_kept, monitor_of}
use Rattle.settings.specs.OneToOne.{Accepted}
use Rattle.settings.specs.SettingsText.{Settings, form_among, form_form, form_refusal, body_in, head_lines, settings_lines, settings_form, settings_of}
use Rattle.settings.proofs.FormLaws.{by_form, taken_known, one_port, port_taken, two_taken, form-fits, match_fits, refused_37}
use Rattle.settings.proofs.OneToOne.{settings_are, room_enough, a_text, whole, matches, sound, form_takes}
use Rattle.settings.proofs.SettingsRound.{settings_back, settings_real}

-- settings fit in every form that is not refused for them
pub in_form-fits : (g : ℕ) (v : Settings) → form_refusal g v.matching ≡ 0 → settings_form.fits v → settings_form.fits (in_form g v)
unfolding settings_form map_form settings_lines pair_form head_lines body_in
in_form-fits g v k f =
    let x = f.0.0.1 in
    (((form-fits g (taken_known g v.matching k), (x.0, (match_fits g v.matching k, x.1.1))), f.0.1), refl)

module _ (s : List ℕ) {v : Settings} {l : ℕ} (e : Accepted s v l) where
  module _ (g : ℕ) (k : form_refusal g v.matching ≡ 0) where
    -- the text of the same settings in a form that is not refused for them
    abbrev other : List ℕ
    other = settings_form.text (in_form g v)

    pub text_in : settings_text g (monitor_of v) ≡ other
    unfolding settings_text
    text_in = ap (λ (x : Settings). settings_form.text x) (settings_are g v (settings_back s e).1)

    pub written_in : (n : ℕ) → length other ≤ n → written_of g (monitor_of v) n ≡ record { number = 0; length = length other }
    written_in n h = rw text_in at (room_enough g (monitor_of v) n (sound s e).formed (rw (matches v) k) (rw text_in h))

    meant : form_meant g v.form ≡ g
    meant = by_form g (taken_known g v.matching k) (λ q. rw q) (λ q. rw q)

    turns : Turns g s l other
    unfolding convert_end converted_end end_at convert_kept converted_kept text_kept
    turns = record { turned = λ d h. (rw (e, converted_end, meant, written_in (length d) h), rw (e, converted_kept, meant, written_in (length d) h, text_in)) }

  -- in its own form that is the text itself
  own_form : Turns v.form s l s
  own_form = rw (settings_back s e).0 at (turns v.form (form_takes s e))

-- and from any form it comes home
comes_home : (s : List ℕ) {v : Settings} {l : ℕ} → Accepted s v l → (g : ℕ) → form_refusal g v.matching ≡ 0 → ComesHome g s v l
unfolding monitor_of
comes_home s {v} e g k =
    let a = a_text (in_form g v) (in_form-fits g v k (settings_back s e).1) in
    record {
      other = settings_form.text (in_form g v);
      other_line = settings_form.count (in_form g v);
      there = turns s e g k;
      accepted = a;
      same_monitor = refl;
      back = rw (settings_back s e).0 at (turns (settings_form.text (in_form g v)) a v.form (form_takes s e));
    }

form_1_port : (s : List ℕ) {v : Settings} {l : ℕ} → Accepted s v l → v.form ≡ 1 → v.matching ≡ Port
form_1_port s {v} e o = one_port v.matching (rw o at (form_takes s e))

-- 37

-- what a form that is refused gives
pub form_refused : (g : ℕ) (m : MqttMonitor) (room : ℕ) {n : ℕ} → well_formed m ≡ true → form_refusal g m.matching ≡ n → (n ≡ 0 → ⊥) → written_of g m room ≡ unwritten n
unfolding written_of fitted length_of text_refusal
form_refused g m room {n} f e z = rw (f, e, ne_eqb n 0 z, le-leb 0 room (omega arith))

writes_37 : (m : MqttMonitor) (room : ℕ) → well_formed m ≡ true → m.matching ≡ Standard → written_of 1 m room ≡ unwritten 37
unfolding form_refusal
writes_37 m room f e = form_refused 1 m room {n = 37} f (rw e) (λ z. omega arith)

says_37 : (s : List ℕ) (room : ℕ) {l : ℕ} → SaysStandard s l → convert_end 1 room s ≡ record { number = 37; line = l; length = 0 }
unfolding convert_end converted_end end_at
says_37 s room x =
    let v = x.settings in
    let e = x.accepted in
    rw (e, converted_end, writes_37 (monitor_of v) room (sound s e).formed (matches v ∙ x.standard))

-- a writing ends in 37 only where that refuses the form
written_37 : (g : ℕ) (m : MqttMonitor) (room : ℕ) → well_formed m ≡ true → (written_of g m room).number ≡ 37 → form_refusal g m.matching ≡ 37
unfolding written_of fitted length_of text_refusal
written_37 g m room f e =
    by (eqb (form_refusal g m.matching) 0)
    (λ t.
    by (leb (length (settings_text g m)) room)
    (λ u. absurd (let q : 0 ≡ 37 = rw (f, t, u) at e in omega arith))
    (λ u. absurd (let q : 28 ≡ 37 = rw (f, t, u) at e in omega arith)))
    (λ t. rw (f, t, le-leb 0 room (omega arith)) at e)

-- a text that says standard is not of form 1
not_form_1 : (s : List ℕ) {v : Settings} {l : ℕ} → Accepted s v l → v.matching ≡ Standard → v.form ≡ 1 → ⊥
unfolding form_refusal
not_form_1 s e m o = let q : ◌≡◌ {A = ℕ} 37 0 = rw (o, m) at (form_takes s e) in omega arith

-- so it is of form 2, and 0, its own form, is not the one that 37 refuses
form_2 : (s : List ℕ) {v : Settings} {l : ℕ} → Accepted s v l → v.matching ≡ Standard → v.form ≡ 2
form_2 s {v} e m = by_form v.form (taken_known v.form v.matching (form_takes s e)) (λ o. absurd (not_form_1 s e m o)) (λ o. o)

meant_1 : (s : List ℕ) {v : Settings} {l : ℕ} → Accepted s v l → v.matching ≡ Standard → (form : ℕ) → form_meant form v.form ≡ 1 → form ≡ 1
meant_1 s e m form h = by (eqb form 0) (λ t. absurd (not_form_1 s e m (rw t at h))) (λ t. rw t at h)

only_from : (s : List ℕ) (form room : ℕ) (t : Took Settings) → settings_of s ≡ t → (converted_end form room t).number ≡ 37 → (form ≡ 1) × SaysStandard s (converted_end form room t).line
unfolding converted_end end_at
only_from s form room (took v p l) q e =
    let a = whole s q in
    let r = refused_37 _ _ (written_37 _ (monitor_of v) room (sound s a).formed e) in
    let m : v.matching ≡ Standard = sym (matches v) ∙ r.1 in
    (meant_1 s a m form r.0, rw e (record { settings = v; accepted = a; form_2 = form_2 s a m; standard = m }))
only_from s form room (stopped n l) q e = absurd (omega (arith, e, (settings_real s n l q).1))

only_37 : (s : List ℕ) (form room : ℕ) → (convert_end form room s).number ≡ 37 → (form ≡ 1) × SaysStandard s (convert_end form room s).line
unfolding convert_end
only_37 s form room e = only_from s form room (settings_of s) refl e

-- whatever refuses it, the buffer stays
kept_from : (d : List ℕ) (form : ℕ) (t : Took Settings) → ((converted_end form (length d) t).number ≡ 0 → ⊥) → converted_kept form d t ≡ d
unfolding converted_end end_at converted_kept text_kept
kept_from d form (took v p l) z = rw (ne_eqb _ 0 z)
kept_from d form (stopped n l) z = refl

pub nothing_written : (s d : List ℕ) (form : ℕ) → ((convert_end form (length d) s).number ≡ 0 → ⊥) → convert_kept form d s ≡ d
unfolding convert_end convert_kept
nothing_written s d form z = kept_from d form (settings_of s) z

-- OLDER HUBS

-- a text's first line is its form's
first_line : (v : Settings) → Stands (settings_form.text v) 0 (form_form.text v.form) (0 + length (form_form.text v.form))
unfolding settings_form map_form settings_lines head_lines pair_form
first_line v = stands_first (form_form.text v.form) _ (stands_first _ _ (stands_whole (settings_form.text v)))

second_form : form_form.text 2 ≡ bytes "form=2\n"
unfolding form_form form_among numbered_form map_form word_form word_line word_text first_word rest_words
second_form = refl

older_hubs : (s : List ℕ) {v : Settings} {l : ℕ} → Accepted s v l → v.form ≡ 2 → (form_among (bytes "1")).read s 0 0 ≡ stopped 29 1
unfolding form_among numbered_form map_form word_form renumbered on_took every word_of word_index same first_word rest_words
older_hubs s {v} e o =
    let a : Stands s 0 (bytes "form=2\n") 7 = rw ((settings_back s e).0, o, second_form) at (first_line v) in
    let n : (word_field s 0 (bytes "form=") (bytes "1")).number ≡ 23 = word_not_there (bytes "form=") (bytes "1") refl (bytes "2") refl refl a in
    rw (n, on_took, renumbered)

-- all of it
pub home_again : HomeAgain
home_again =
    record {
      form_1_port = form_1_port;
      one_and_back = λ s {v} e o. comes_home s e 2 (two_taken v.matching);
      two_and_back = λ s e o p. comes_home s e 1 (rw p (port_taken 1 refl));
      own_form = own_form;
      says_37 = says_37;
      only_37 = only_37;
      writes_37 = writes_37;
      nothing_written = nothing_written;
      older_hubs = older_hubs;
    }
