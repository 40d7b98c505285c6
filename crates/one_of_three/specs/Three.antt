-- One of three managers, by what each of the three is.
use Rattle.managed.specs.Seen.{Seen}
use Rattle.one_of_three.specs.declared.three.OneOfThree.{OneOfThree}
use Rattle.one_of_three.specs.declared.three.OneOfThree.TheVariants.{Files, Processes, Ports}

-- what the administrator sees of it
abbrev pub seen_by : {A B C : Type 0} → (A → Seen) → (B → Seen) → (C → Seen) → OneOfThree A B C → Seen
seen_by files processes ports (Files a) = files a
seen_by files processes ports (Processes b) = processes b
seen_by files processes ports (Ports c) = ports c

-- two are the same besides the change: of one kind, and there the same
abbrev pub AreSame : {A B C : Type 0} → (A → A → Type 0) → (B → B → Type 0) → (C → C → Type 0) → OneOfThree A B C → OneOfThree A B C → Type 0
AreSame files processes ports (Files old) (Files new) = files old new
AreSame files processes ports (Processes old) (Processes new) = processes old new
AreSame files processes ports (Ports old) (Ports new) = ports old new
AreSame files processes ports old new = ⊥

module _ {A B C : Type 0} (files : A → A → Type 0) (processes : B → B → Type 0) (ports : C → C → Type 0) where
  -- each is the same as itself
  pub same_reflexive : ((a : A) → files a a) → ((b : B) → processes b b) → ((c : C) → ports c c) → (one : OneOfThree A B C) → AreSame files processes ports one one
  same_reflexive of_files of_processes of_ports (Files a) = of_files a
  same_reflexive of_files of_processes of_ports (Processes b) = of_processes b
  same_reflexive of_files of_processes of_ports (Ports c) = of_ports c

  -- what is the same as the same is the same
  pub same_transitive : ((a b c : A) → files a b → files b c → files a c) → ((a b c : B) → processes a b → processes b c → processes a c)
      → ((a b c : C) → ports a b → ports b c → ports a c)
      → (a b c : OneOfThree A B C) → AreSame files processes ports a b → AreSame files processes ports b c → AreSame files processes ports a c
  same_transitive of_files of_processes of_ports (Files a) (Files b) (Files c) ab bc = of_files a b c ab bc
  same_transitive of_files of_processes of_ports (Processes a) (Processes b) (Processes c) ab bc = of_processes a b c ab bc
  same_transitive of_files of_processes of_ports (Ports a) (Ports b) (Ports c) ab bc = of_ports a b c ab bc
  same_transitive of_files of_processes of_ports (Files a) (Processes b) c ab bc = absurd ab
  same_transitive of_files of_processes of_ports (Files a) (Ports b) c ab bc = absurd ab
  same_transitive of_files of_processes of_ports (Processes a) (Files b) c ab bc = absurd ab
  same_transitive of_files of_processes of_ports (Processes a) (Ports b) c ab bc = absurd ab
  same_transitive of_files of_processes of_ports (Ports a) (Files b) c ab bc = absurd ab
  same_transitive of_files of_processes of_ports (Ports a) (Processes b) c ab bc = absurd ab
  same_transitive of_files of_processes of_ports (Files a) (Files b) (Processes c) ab bc = absurd bc
  same_transitive of_files of_processes of_ports (Files a) (Files b) (Ports c) ab bc = absurd bc
  same_transitive of_files of_processes of_ports (Processes a) (Processes b) (Files c) ab bc = absurd bc
  same_transitive of_files of_processes of_ports (Processes a) (Processes b) (Ports c) ab bc = absurd bc
  same_transitive of_files of_processes of_ports (Ports a) (Ports b) (Files c) ab bc = absurd bc
  same_transitive of_files of_processes of_ports (Ports a) (Ports b) (Processes c) ab bc = absurd bc
