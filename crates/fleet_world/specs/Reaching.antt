-- Which sites a site has reached: hop by hop, each time by a whole sweep or by a merge.
-- Serves laws `reaching`, `agreement`, `telling`, `withdrawn`.
use Rattle.std.specs.Prelude.{◌≡◌, ◌≢◌, ℕ, zero, suc, List, [], Result, Ok}
use Rattle.fleet_name.specs.Places.{At, Has}
use Rattle.fleet_world.specs.FleetModel.{Replica, FleetModel}
use Rattle.fleet_world.specs.Step.{Step}
use Rattle.fleet_world.specs.Run.{Results, Run}
use Rattle.fleet_world.specs.declared.event.Event.{Event}
use Rattle.fleet_world.specs.declared.event.Event.TheVariants.{Sweep, Merge, Restart}
use Rattle.fleet_world.specs.declared.stepped.Stepped.{Stepped}
use Rattle.fleet_world.specs.declared.fault.WorldFault.{WorldFault}

-- some events lead from m to n
pub record RunsTo (A : Type 0) (m n : FleetModel) : Type 0 where
  pub events : List (Event A)
  pub results : Results A
  pub run : Run m events results n

-- the event begins this site again
abbrev pub Restarts : {A : Type 0} → Event A → ℕ → Type 0
Restarts (Restart site) j = site ≡ j
Restarts e j = ⊥

-- there are such frames, and each of them was delivered to the site since it last began
pub record HasWhole (n : FleetModel) (j : ℕ) (numbers : List ℕ) : Type 0 where
  pub replica : Replica
  pub there : At n.sites j replica
  pub some : numbers ≢ []
  pub delivered : (number : ℕ) → Has numbers number → Has replica.delivered number

-- From m to n site i has reached site j. A site has reached itself, and who was reached stays so
-- until it restarts. Who was reached reaches by a sweep each site to which all frames of the sweep
-- are delivered then, and by a merge the one that takes in what it holds.
pub data HasReached (A : Type 0) (m : FleetModel) (i : ℕ) : FleetModel → ℕ → Type 0 where
  itself : {n : FleetModel} {j : ℕ} → n ≡ m → j ≡ i → HasReached A m i n j
  stays : {n : FleetModel} {j : ℕ} (before : FleetModel) (e : Event A)
      (r : Result (Stepped A) (WorldFault A))
      → HasReached A m i before j → Step before e r n → ¬ Restarts e j
      → HasReached A m i n j
  by_sweep : {n : FleetModel} {j : ℕ} (before after : FleetModel) (sender : ℕ) (s : Stepped A)
      → HasReached A m i before sender → Step before (Sweep sender) (Ok s) after → RunsTo A after n
      → HasWhole n j s.frames
      → HasReached A m i n j
  by_merge : {n : FleetModel} {j : ℕ} (before : FleetModel) (from : ℕ) (s : Stepped A)
      → HasReached A m i before from → Step before (Merge j from) (Ok s) n
      → HasReached A m i n j

-- a round of gossip: each site has reached those that it is linked to; itself too, where a link says so
abbrev pub IsGossipRound : Type 0 → List (ℕ × ℕ) → FleetModel → FleetModel → Type 0
IsGossipRound A links m n = (i j : ℕ) → Has links (i, j) → HasReached A m i n j

-- that many rounds of gossip, one after another
abbrev pub AreRounds : Type 0 → List (ℕ × ℕ) → ℕ → FleetModel → FleetModel → Type 0
AreRounds A links zero m n = n ≡ m
AreRounds A links (suc count) m n =
    (between : FleetModel) × IsGossipRound A links m between × AreRounds A links count between n

-- that many links, one after another, lead from i to j
abbrev pub AreLinked : List (ℕ × ℕ) → ℕ → ℕ → ℕ → Type 0
AreLinked links zero i j = j ≡ i
AreLinked links (suc count) i j = (h : ℕ) × Has links (i, h) × AreLinked links count h j
