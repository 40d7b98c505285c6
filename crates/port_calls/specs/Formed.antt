-- Calls as a session may give them: which slots, ports, modes and data there are.
use Rattle.std.specs.Prelude.{◌≡◌, ℕ, ◌<◌, ◌≤◌, ◌⊎◌, Bool, ◌&&◌, nat_le, List, length}
use Rattle.std.specs.List.{AllPass}
use Rattle.port_calls.specs.declared.call.PortCall.{PortCall}
use Rattle.port_calls.specs.declared.call.PortCall.TheVariants as call

-- a slot's number
abbrev pub IsSlot : ℕ → Type 0
IsSlot slot = slot < 64

-- a port's number
abbrev pub IsPort : ℕ → Type 0
IsPort port = (0 < port) × (port < 65536)

-- the modes of a slot that binds, as vectors: name_bind, and name_bind with recv
abbrev pub bind_mode : ℕ
bind_mode = 1

abbrev pub bind_recv_mode : ℕ
bind_recv_mode = 3

-- the modes of a slot that connects: connect, and send with connect
abbrev pub connect_mode : ℕ
connect_mode = 8

abbrev pub connect_send_mode : ℕ
connect_send_mode = 12

abbrev pub IsBindMode : ℕ → Type 0
IsBindMode mode = (mode ≡ bind_mode) ⊎ (mode ≡ bind_recv_mode)

abbrev pub IsConnectMode : ℕ → Type 0
IsConnectMode mode = (mode ≡ connect_mode) ⊎ (mode ≡ connect_send_mode)

-- a byte of data: one that words are made of
abbrev pub is_data_byte : ℕ → Bool
is_data_byte b = nat_le 33 b && nat_le b 126

-- what is sent: 1 to 1,024 such bytes, of which the manager takes at most 256
abbrev pub IsData : List ℕ → Type 0
IsData piece = (0 < length piece) × (length piece ≤ 1024) × AllPass is_data_byte piece

-- a call with its slot, its port, its mode and its data in their ranges
abbrev pub IsCall : PortCall → Type 0
IsCall (call.Bind slot port mode) = IsSlot slot × IsPort port × IsBindMode mode
IsCall (call.Recv slot) = IsSlot slot
IsCall (call.Connect slot port mode) = IsSlot slot × IsPort port × IsConnectMode mode
IsCall (call.Push slot piece) = IsSlot slot × IsData piece
IsCall (call.Send port piece) = IsPort port × IsData piece
IsCall (call.Unbind slot) = IsSlot slot
IsCall (call.StatPort port) = IsPort port
