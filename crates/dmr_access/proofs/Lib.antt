mod SameLemmas
mod NoiseLemmas
