pub mod ClassesLemmas
