-- What is told of an answer tells the whole answer: of what was read, loaded, written or converted, a value has the number 0 and no refusal has. Assumes nothing.
use Prim.Native.Nat.{ℕ}
use mathlib.Core.Path.{◌≡◌, ap, sym, ◌∙◌}
use Rattle.std.specs.Prelude.{Result, Ok, Err}
use Rattle.laws.specs.Refusals.{refusal}
use Rattle.monitor.specs.declared.state.MqttMonitor.{MqttMonitor}
use Rattle.settings.specs.Kept.{SettingsRead}
use Rattle.settings.specs.Loaded.{LoadedSettings, Written}
use Rattle.settings.specs.Refused.{refusal_number, read_told, form_told, loaded_told, write_told, end_told}
use Rattle.settings.specs.declared.convert.Converted.{Converted}
use Rattle.settings.specs.declared.convert.SettingsEnd.{SettingsEnd}
use Rattle.settings.specs.declared.load.Loaded.{Loaded}
use Rattle.settings.specs.declared.read.SettingsFound.{SettingsFound}
use Rattle.settings.specs.declared.refusal.Refused.{Refused}
use Rattle.settings.specs.declared.refusal.SettingsRefusal.{SettingsRefusal}
use Rattle.settings.proofs.refusal.KnownLaws.{never_0, refusal_same}

abbrev at_line : SettingsRefusal → ℕ → Refused
at_line x l = record { refusal = x; line = l }

refused_same : (d e : Refused) → refusal_number d.refusal ≡ refusal_number e.refusal → d.line ≡ e.line → d ≡ e
refused_same d e p q =
    let f : d.refusal ≡ e.refusal = refusal_same d.refusal e.refusal p in
    ap (λ (x : SettingsRefusal). at_line x d.line) f ∙ ap (at_line e.refusal) q

abbrev found_of : SettingsRead → SettingsFound
found_of r =
    record {
      line = r.line;
      values =
          record {
            form = r.form;
            default_action = r.default_action;
            matching = r.matching;
            threshold = r.threshold;
            window = r.window;
            rules = r.rule_count;
          };
      rules_from = r.rules_from;
      rules = r.rules;
    }

pub read_once : (a b : Result SettingsFound Refused) → read_told a ≡ read_told b → a ≡ b
read_once (Ok f) (Ok g) p = let k : SettingsRead → Result SettingsFound Refused = λ r. Ok (found_of r) in ap k p
read_once (Ok f) (Err e) p = absurd (never_0 e.refusal (sym (ap (λ (r : SettingsRead). r.number) p)))
read_once (Err d) (Ok g) p = absurd (never_0 d.refusal (ap (λ (r : SettingsRead). r.number) p))
read_once (Err d) (Err e) p =
    let k : Refused → Result SettingsFound Refused = λ x. Err x in ap k (refused_same d e (ap (λ (r : SettingsRead). r.number) p) (ap (λ (r : SettingsRead). r.line) p))

outcome_once : (a b : Result ℕ SettingsRefusal) → refusal refusal_number a ≡ refusal refusal_number b → form_told a ≡ form_told b → a ≡ b
outcome_once (Ok f) (Ok g) n p = let k : ℕ → Result ℕ SettingsRefusal = λ x. Ok x in ap k p
outcome_once (Ok f) (Err e) n p = absurd (never_0 e (sym n))
outcome_once (Err d) (Ok g) n p = absurd (never_0 d n)
outcome_once (Err d) (Err e) n p = let k : SettingsRefusal → Result ℕ SettingsRefusal = λ x. Err x in ap k (refusal_same d e n)

loaded_is : {a b : Result ℕ SettingsRefusal} {l m : ℕ} {x y : MqttMonitor} → a ≡ b → l ≡ m → x ≡ y
    → ◌≡◌ {A = Loaded} (record { outcome = a; line = l; monitor = x }) (record { outcome = b; line = m; monitor = y })
loaded_is p q r = rw (p, q, r)

pub loaded_once : (a b : Loaded) → loaded_told a ≡ loaded_told b → a ≡ b
loaded_once a b p =
    let outcome = outcome_once a.outcome b.outcome (ap (λ (r : LoadedSettings). r.number) p) (ap (λ (r : LoadedSettings). r.form) p) in
    loaded_is outcome (ap (λ (r : LoadedSettings). r.line) p) (ap (λ (r : LoadedSettings). r.monitor) p)

pub write_once : (a b : Result ℕ SettingsRefusal) → write_told a ≡ write_told b → a ≡ b
write_once (Ok f) (Ok g) p = let k : Written → Result ℕ SettingsRefusal = λ r. Ok r.length in ap k p
write_once (Ok f) (Err e) p = absurd (never_0 e (sym (ap (λ (r : Written). r.number) p)))
write_once (Err d) (Ok g) p = absurd (never_0 d (ap (λ (r : Written). r.number) p))
write_once (Err d) (Err e) p = let k : SettingsRefusal → Result ℕ SettingsRefusal = λ x. Err x in ap k (refusal_same d e (ap (λ (r : Written). r.number) p))

abbrev end_of : SettingsEnd → Converted
end_of r = record { line = r.line; length = r.length }

pub end_once : (a b : Result Converted Refused) → end_told a ≡ end_told b → a ≡ b
end_once (Ok f) (Ok g) p = let k : SettingsEnd → Result Converted Refused = λ r. Ok (end_of r) in ap k p
end_once (Ok f) (Err e) p = absurd (never_0 e.refusal (sym (ap (λ (r : SettingsEnd). r.number) p)))
end_once (Err d) (Ok g) p = absurd (never_0 d.refusal (ap (λ (r : SettingsEnd). r.number) p))
end_once (Err d) (Err e) p =
    let k : Refused → Result Converted Refused = λ x. Err x in ap k (refused_same d e (ap (λ (r : SettingsEnd). r.number) p) (ap (λ (r : SettingsEnd). r.line) p))
