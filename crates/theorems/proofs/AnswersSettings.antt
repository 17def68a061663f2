-- One answer for every public function of `settings`, and nothing asked of its caller (specs/One.antt). Assumes nothing.
use mathlib.Core.Path.{sym, ◌∙◌}
use Rattle.settings.specs.contracts.read.read_settings as read-read_settings
use Rattle.settings.proofs.read.read_settings.Reads as read-read_settings-reads
use Rattle.settings.specs.contracts.load.load_settings as load-load_settings
use Rattle.settings.proofs.load.load_settings.Reads as load-load_settings-reads
use Rattle.settings.specs.contracts.write.settings_length as write-settings_length
use Rattle.settings.proofs.write.settings_length.Reads as write-settings_length-reads
use Rattle.settings.specs.contracts.write.write_settings as write-write_settings
use Rattle.settings.proofs.write.write_settings.Reads as write-write_settings-reads
use Rattle.settings.specs.contracts.convert.convert_settings as convert-convert_settings
use Rattle.settings.proofs.convert.convert_settings.Reads as convert-convert_settings-reads
use Rattle.settings.specs.contracts.told.tell_settings as told-tell_settings
use Rattle.settings.proofs.told.tell_settings.Reads as told-tell_settings-reads
use Rattle.settings.specs.contracts.told.turn_settings as told-turn_settings
use Rattle.settings.proofs.told.turn_settings.Reads as told-turn_settings-reads
use Rattle.settings.specs.contracts.dead.tell_dead as dead-tell_dead
use Rattle.settings.proofs.dead.tell_dead.Reads as dead-tell_dead-reads
use Rattle.settings.specs.contracts.dead.tell_pair as dead-tell_pair
use Rattle.settings.proofs.dead.tell_pair.Reads as dead-tell_pair-reads
use Rattle.settings.specs.contracts.refusal.SettingsRefusal.number as refusal-SettingsRefusal-number
use Rattle.settings.proofs.refusal.SettingsRefusal.number.Reads as refusal-SettingsRefusal-number-reads
use Rattle.settings.proofs.refusal.OnceLaws.{read_once, loaded_once, write_once, end_once}
use Rattle.theorems.specs.One.{Any, One, OneLeft}

pub one-read-read_settings : One read-read_settings.ended read-read_settings-reads.Post
one-read-read_settings κs a x y e f p q = read_once _ _ (p ∙ sym q)

pub any-read-read_settings : Any read-read_settings.ended read-read_settings-reads.Asked
any-read-read_settings κs a = tt

pub one-load-load_settings : One load-load_settings.ended load-load_settings-reads.Post
one-load-load_settings κs a x y e f p q = loaded_once _ _ (p ∙ sym q)

pub any-load-load_settings : Any load-load_settings.ended load-load_settings-reads.Asked
any-load-load_settings κs a = tt

pub one-write-settings_length : One write-settings_length.ended write-settings_length-reads.Post
one-write-settings_length κs a x y e f p q = write_once _ _ (p ∙ sym q)

pub any-write-settings_length : Any write-settings_length.ended write-settings_length-reads.Asked
any-write-settings_length κs a = tt

pub one-write-write_settings : OneLeft write-write_settings.ended write-write_settings-reads.Post (λ κs e. e.1.1.0.now)
one-write-write_settings κs a x y e f p q = (write_once _ _ (p.0 ∙ sym q.0), p.1 ∙ sym q.1)

pub any-write-write_settings : Any write-write_settings.ended write-write_settings-reads.Asked
any-write-write_settings κs a = tt

pub one-convert-convert_settings : OneLeft convert-convert_settings.ended convert-convert_settings-reads.Post (λ κs e. e.1.1.0.now)
one-convert-convert_settings κs a x y e f p q = (end_once _ _ (p.0 ∙ sym q.0), p.1 ∙ sym q.1)

pub any-convert-convert_settings : Any convert-convert_settings.ended convert-convert_settings-reads.Asked
any-convert-convert_settings κs a = tt

pub one-told-tell_settings : OneLeft told-tell_settings.ended told-tell_settings-reads.Post (λ κs e. e.1.0.now)
one-told-tell_settings κs a x y e f p q = (p.0 ∙ sym q.0, p.1.0 ∙ sym q.1.0)

pub any-told-tell_settings : Any told-tell_settings.ended told-tell_settings-reads.Asked
any-told-tell_settings κs a = tt

pub one-told-turn_settings : OneLeft told-turn_settings.ended told-turn_settings-reads.Post (λ κs e. e.1.1.0.now)
one-told-turn_settings κs a x y e f p q = (p.0 ∙ sym q.0, p.1.0 ∙ sym q.1.0)

pub any-told-turn_settings : Any told-turn_settings.ended told-turn_settings-reads.Asked
any-told-turn_settings κs a = tt

pub one-dead-tell_dead : OneLeft dead-tell_dead.ended dead-tell_dead-reads.Post (λ κs e. e.1.0.now)
one-dead-tell_dead κs a x y e f p q = (p.0 ∙ sym q.0, p.1.0 ∙ sym q.1.0)

pub any-dead-tell_dead : Any dead-tell_dead.ended dead-tell_dead-reads.Asked
any-dead-tell_dead κs a = tt

pub one-dead-tell_pair : OneLeft dead-tell_pair.ended dead-tell_pair-reads.Post (λ κs e. e.1.1.1.0.now)
one-dead-tell_pair κs a x y e f p q = (p.0 ∙ sym q.0, p.1.0 ∙ sym q.1.0)

pub any-dead-tell_pair : Any dead-tell_pair.ended dead-tell_pair-reads.Asked
any-dead-tell_pair κs a = tt

pub one-refusal-SettingsRefusal-number : One refusal-SettingsRefusal-number.ended refusal-SettingsRefusal-number-reads.Post
one-refusal-SettingsRefusal-number κs a x y e f p q = p ∙ sym q

pub any-refusal-SettingsRefusal-number : Any refusal-SettingsRefusal-number.ended refusal-SettingsRefusal-number-reads.Asked
any-refusal-SettingsRefusal-number κs a = tt
