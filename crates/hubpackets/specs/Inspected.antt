-- What is inspected of two inputs, a settings text and a capture: the load of a text that was read to its end, and the records of a capture that was. To an input of which reading failed there is no
-- answer at all.
-- Assumes nothing.
use Rattle.std.specs.Prelude.{Bool, List, [], ℕ, take}
use Rattle.monitor.specs.declared.state.MqttMonitor.{MqttMonitor}
use Rattle.settings.specs.Loaded.{LoadedSettings, loaded_of}
use Rattle.settings.specs.SettingsText.{settings_of}
use Rattle.queue.specs.Queue.{QueueEnd, wake_of, queue_end, records_of, sent_of}
use Rattle.std.specs.Prelude.{Result, Ok, Err, ℤ}

-- what the settings text loads to; where it could not be read, what no text at all does, which is refused
unfoldable pub loaded_from : Result ℕ ℤ → List ℕ → LoadedSettings
loaded_from (Ok n) s = loaded_of (settings_of (take n s))
loaded_from (Err error) s = loaded_of (settings_of [])

-- how the run of a capture ends under a monitor
unfoldable pub end_to : MqttMonitor → ℕ → Bool → ℕ → Result ℕ ℤ → List ℕ → QueueEnd
end_to m time ok room (Ok n) s = queue_end m (wake_of (take n s) time ok room)
end_to m time ok room (Err error) s = record { number = 0; place = 0; done = 0; length = 0; monitor = m }

-- and its records: those of the messages that were done, inspected singly
unfoldable pub records_to : MqttMonitor → ℕ → Bool → ℕ → Result ℕ ℤ → List ℕ → List ℕ
records_to m time ok room (Ok n) s = records_of m (sent_of m (wake_of (take n s) time ok room))
records_to m time ok room (Err error) s = []
