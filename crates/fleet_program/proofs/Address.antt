-- Words that are addresses.
-- Serves `address`.
use Rattle.std.proofs.Common.{◌≡◌, ◌≢◌, ℕ, zero, suc, ◌<◌, List, [], ◌∷◌, ◌++◌, length, get_or, Option, Some, None, Result, Ok, Err, true, sym, subst, ap, ◌∙◌, arith, append_assoc, lit<, Bor}
use mathlib.Core.Bool.{false≢true}
use Rattle.std.specs.Prelude.{MatchOption, codes, decimal}
use Rattle.std.specs.Char.{is_ascii_digit}
use Rattle.std.specs.List.{All}
use Rattle.std.specs.Result.{result_ok}
use Rattle.std.specs.Int.{w32, to_be_bytes}
use Rattle.std.specs.declared.net.ipv4_addr.Ipv4Addr.{Ipv4Addr}
use Rattle.std.specs.Net.Addr.{ipv4_bits}
use Rattle.std.specs.Net.Grammar.{IsDotted, IsIpv4Text, Parses}
use Rattle.std.specs.Net.Text.{dotted_text}
use Rattle.std.proofs.lemmas.Fmt.{digits_decimal}
use Rattle.std.proofs.lemmas.Nat.{be_bytes_4}
use Rattle.std.proofs.lemmas.List.Elements.{All-append}
use Rattle.std.proofs.lemmas.List.Sums.{AllPass-from_list_all}
use Rattle.std.proofs.lemmas.Str.Pattern.{IsSplitOnceResult, split_after, split_parts}
use Rattle.fleet_pending.specs.declared.addr.Addr.{Addr}
use Rattle.fleet_program.specs.Words.{IsPort, number_of, SpellsAddress}
use Rattle.fleet_program.proofs.Numbers.{model}

-- a digit is no colon, and neither is a dot
digit_other : (b : ℕ) → is_ascii_digit b ≡ true → b ≢ 58
digit_other b h e = let colon : is_ascii_digit 58 ≡ true = rw e at h in false≢true colon

decimal_other : (n : ℕ) → n < 256 → All (λ b. b ≢ 58) (decimal n)
decimal_other n small k d h = digit_other _ (AllPass-from_list_all is_ascii_digit (decimal n)
    (digits_decimal model n (omega (arith, small))) k d h)

dot_other : All (λ b. b ≢ 58) (codes ".")
dot_other zero d h e = let bad : 46 ≡ 58 = e in omega (arith, bad)
dot_other (suc k) d h e = omega (arith, h)

-- in a dotted address there is no colon
dotted_other : (word octets : List ℕ) → IsDotted word octets → (i : ℕ) → i < length word
    → get_or word i 0 ≢ 58
dotted_other word octets h i k =
    let P : ℕ → Type 0 = λ b. b ≢ 58 in
    let a = decimal_other h.a h.fit.0 in
    let b = decimal_other h.b h.fit.1 in
    let c = decimal_other h.c h.fit.2 in
    let d = decimal_other h.d h.fit.3 in
    let all : All P (dotted_text h.a h.b h.c h.d) = All-append P _ _
    (All-append P _ _ (All-append P _ _
    (All-append P _ _ (All-append P _ _ (All-append P _ _ a dot_other) b) dot_other) c)
    dot_other) d in
    let same : List ℕ → Type 0 = All P in
    subst same (sym h.spelled) all i 0 k

-- so an address is split at its colon
pub split_address : (word : List ℕ) (addr : Addr) (r : Option (Bor (List ℕ) × Bor (List ℕ)))
    → (s : SpellsAddress word addr) → IsSplitOnceResult 58 word r
    → MatchOption r ⊥ (λ x. (x.0.now ≡ s.host) × (x.1.now ≡ s.port))
split_address word addr r s h =
    let colon : word ≡ s.host ++ (58 ∷ s.port) = s.spelled ∙ append_assoc s.host (58 ∷ []) s.port in
    split_after 58 word s.host s.port r h (lit< tt) colon
    (dotted_other s.host (to_be_bytes w32 addr.host) s.dotted)

-- a word that is not split is no address
pub not_split : (word : List ℕ) (r : Option (Bor (List ℕ) × Bor (List ℕ)))
    → IsSplitOnceResult 58 word r → r ≡ None → (addr : Addr) → SpellsAddress word addr → ⊥
not_split word r h e addr s = rw e at (split_address word addr r s h)

-- what was read as a host, and what was not
no_host : {E : Type 0} (text octets : List ℕ) (r : Result Ipv4Addr E) → Parses IsIpv4Text text r
    → None ≡ result_ok r → IsDotted text octets → ⊥
no_host text octets (Err e) parsed none dotted = parsed (record { octets = octets }) dotted
no_host text octets (Ok a) parsed none dotted = cc

host_read : {E : Type 0} (text : List ℕ) (r : Result Ipv4Addr E) (a : Ipv4Addr)
    → Parses IsIpv4Text text r → Some a ≡ result_ok r → IsIpv4Text text a
host_read text (Ok b) a parsed some = let e : a ≡ b = cc in rw e parsed
host_read text (Err e) a parsed some = absurd (let bad : Some a ≡ None = some in cc)

-- so a word with no host is no address
pub without_host : {E : Type 0} (word : List ℕ) (host port : Bor (List ℕ))
    (r : Option (Bor (List ℕ) × Bor (List ℕ))) (read : Result Ipv4Addr E)
    → IsSplitOnceResult 58 word r → r ≡ Some (host, port) → Parses IsIpv4Text host.now read
    → None ≡ result_ok read → (addr : Addr) → SpellsAddress word addr → ⊥
without_host word host port r read h e parsed none addr s =
    let parts : (host.now ≡ s.host) × (port.now ≡ s.port) =
    rw e at (split_address word addr r s h) in
    no_host host.now (to_be_bytes w32 addr.host) read parsed none (rw parts.0 s.dotted)

-- nor is one with no port
pub without_port : (word : List ℕ) (host port : Bor (List ℕ))
    (r : Option (Bor (List ℕ) × Bor (List ℕ))) → IsSplitOnceResult 58 word r
    → r ≡ Some (host, port) → ¬ IsPort port.now → (addr : Addr) → SpellsAddress word addr → ⊥
without_port word host port r h e none addr s =
    let parts : (host.now ≡ s.host) × (port.now ≡ s.port) =
    rw e at (split_address word addr r s h) in
    none (rw parts.1 s.port_number)

octets_small : (a b c d : ℕ) → (a < 256) × (b < 256) × (c < 256) × (d < 256) → (i : ℕ)
    → get_or (a ∷ b ∷ c ∷ d ∷ []) i 0 < 256
octets_small a b c d h zero = h.0
octets_small a b c d h (suc zero) = h.1
octets_small a b c d h (suc (suc zero)) = h.2
octets_small a b c d h (suc (suc (suc zero))) = h.3
octets_small a b c d h (suc (suc (suc (suc i)))) = lit< tt

-- the octets of a host's number are those of the host
dotted_bits : (text : List ℕ) (a : Ipv4Addr) (n : ℕ) → IsIpv4Text text a → n ≡ ipv4_bits a
    → IsDotted text (to_be_bytes w32 n)
unfolding ipv4_bits
dotted_bits text a n h e =
    let P : List ℕ → Type 0 = λ o. (i : ℕ) → get_or o i 0 < 256 in
    let small : P a.octets = subst P (sym h.value) (octets_small h.a h.b h.c h.d h.fit) in
    let same : to_be_bytes w32 n ≡ a.octets = be_bytes_4 a.octets n (ap (λ o. length o) h.value)
    small e in
    let Q : List ℕ → Type 0 = IsDotted text in
    subst Q (sym same) h

-- a host and a port
pub address_read : {E : Type 0} (word : List ℕ) (host port : Bor (List ℕ))
    (r : Option (Bor (List ℕ) × Bor (List ℕ))) (read : Result Ipv4Addr E) (a : Ipv4Addr)
    (bits p : ℕ) → IsSplitOnceResult 58 word r → r ≡ Some (host, port)
    → Parses IsIpv4Text host.now read → Some a ≡ result_ok read → bits ≡ ipv4_bits a
    → IsPort port.now → p ≡ number_of port.now
    → SpellsAddress word (record { host = bits; port = p })
address_read word host port r read a bits p h e parsed some b is_port value =
    let parts : (word ≡ host.now ++ (58 ∷ port.now))
    × ((i : ℕ) → i < length host.now → get_or host.now i 0 ≢ 58) =
    rw e at (split_parts 58 word r h (lit< tt)) in
    record {
      host = host.now;
      port = port.now;
      spelled = parts.0 ∙ sym (append_assoc host.now (58 ∷ []) port.now);
      dotted = dotted_bits host.now a bits (host_read host.now read a parsed some) b;
      port_number = is_port;
      port_value = value;
    }
