-- The words behind a command, by the names of their places.
use Rattle.std.specs.Prelude.{◌≡◌, ℕ, List, [], unwrap_or, codes}
use Rattle.clap.specs.declared.parser.matches.Found.{Found}
use Rattle.clap.specs.Words.{first_value}
use Rattle.control_words.specs.declared.words.AskWords.{AskWords}
use Rattle.control_words.specs.declared.words.WhoWords.{WhoWords}
use Rattle.control_words.specs.declared.words.DiffWords.{DiffWords}

-- the word that the parser found at the place of a name, or no letters
abbrev pub word_at : Found → List ℕ → List ℕ
word_at found name = unwrap_or (first_value found name) []

-- the words of `ask` are those that were found
pub record AreAskWords (found : Found) (words : AskWords) : Type 0 where
  pub version : words.version.now ≡ word_at found (codes "VERSION")
  pub source : words.source.now ≡ word_at found (codes "S")
  pub target : words.target.now ≡ word_at found (codes "T")
  pub class : words.class.now ≡ word_at found (codes "CLASS")

-- the words of `who` are those that were found
pub record AreWhoWords (found : Found) (words : WhoWords) : Type 0 where
  pub version : words.version.now ≡ word_at found (codes "VERSION")
  pub target : words.target.now ≡ word_at found (codes "T")
  pub class : words.class.now ≡ word_at found (codes "CLASS")
  pub permission : words.permission.now ≡ word_at found (codes "PERM")

-- the words of `diff` are those that were found
pub record AreDiffWords (found : Found) (words : DiffWords) : Type 0 where
  pub before : words.before.now ≡ word_at found (codes "V")
  pub after : words.after.now ≡ word_at found (codes "W")
