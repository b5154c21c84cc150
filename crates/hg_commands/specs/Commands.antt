-- Which status the commands give whose devices no contract names: standard input and output, files and a listener.
use Rattle.std.specs.Prelude.{ℕ, ◌≡◌, ◌⊎◌}

-- the status where a device failed, or memory was refused for one
abbrev pub IsDeviceStatus : ℕ → Type 0
IsDeviceStatus status = (status ≡ 3) ⊎ (status ≡ 4)

-- the status of a store that was read, or ended
abbrev pub IsStoreStatus : ℕ → Type 0
IsStoreStatus status = (status ≡ 0) ⊎ IsDeviceStatus status

-- the status of a push, a replay or a service: that of a store, or that a push was aborted
abbrev pub IsRunStatus : ℕ → Type 0
IsRunStatus status = (status ≡ 1) ⊎ IsStoreStatus status
